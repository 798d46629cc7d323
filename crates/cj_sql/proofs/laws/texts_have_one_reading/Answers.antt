use Rattle.cj_sql.proofs.OneReading.{text_one}
use Rattle.cj_sql.proofs.laws.texts_have_one_reading.Goals as goal

pub returns : goal.returns
returns c = text_one
