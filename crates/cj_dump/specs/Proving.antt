-- What exists for proofs alone.
use Rattle.cj_codec.specs.declared.error.CodecError.{CodecError}
use Rattle.cj_codec.specs.declared.error.CodecError.TheVariants as codec
use Rattle.cj_dump.specs.declared.error.DumpError.{DumpError}
use Rattle.cj_dump.specs.declared.error.DumpError.TheVariants as errors

-- an error of the codec as one of a dump
abbrev pub located : CodecError → DumpError
located (codec.Cut n) = errors.Cut n
located (codec.BadField n) = errors.BadField n
located codec.NoMemory = errors.NoMemory
