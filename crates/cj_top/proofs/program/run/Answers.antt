use Rattle.std.proofs.Common.{◌≡◌, Some, map}
use Rattle.std.specs.Prelude.{string_bytes}
use Rattle.cj_args.specs.declared.asked.Asked.TheVariants as asked
use Rattle.cj_top.proofs.AskedWords.{asks_for_no_text, asks_nothing, few_said, help_is_no_command, is_no_text, of_command, serving_is_no_command, serving_is_no_text, version_is_no_command, work_asked}
use Rattle.cj_top.proofs.program.run.Goals as goal

pub run_command-requires-clause-few : goal.run_command-requires-clause-few
run_command-requires-clause-few g c =
    let r = c.in-Ok-Some-Command in
    let is : r.field-0 ≡ Some (asked.Command r.command) = cc (r.field-0-is, r.field-0-0-is) in
    few_said (map string_bytes c.args.words.now) r.command ((r.ensures.found (asked.Command r.command)).0 is)

pub returns-in-Ok-Some-Command-clause-runs : goal.returns-in-Ok-Some-Command-clause-runs
returns-in-Ok-Some-Command-clause-runs g c =
    let r = c.in-Ok-Some-Command in
    let is : r.field-0 ≡ Some (asked.Command r.command) = cc (r.field-0-is, r.field-0-0-is) in
    of_command (map string_bytes c.args.words.now) r.field-0 r.ensures.found _ r.command is c.run_command.ensures.runs

pub returns-in-Ok-Some-Command-clause-unread : goal.returns-in-Ok-Some-Command-clause-unread
returns-in-Ok-Some-Command-clause-unread g c =
    let r = c.in-Ok-Some-Command in
    let is : r.field-0 ≡ Some (asked.Command r.command) = cc (r.field-0-is, r.field-0-0-is) in
    of_command (map string_bytes c.args.words.now) r.field-0 r.ensures.found _ r.command is c.run_command.ensures.unread

pub returns-in-Ok-Some-Command-clause-text : goal.returns-in-Ok-Some-Command-clause-text
returns-in-Ok-Some-Command-clause-text g c asks =
    let r = c.in-Ok-Some-Command in
    let is : r.field-0 ≡ Some (asked.Command r.command) = cc (r.field-0-is, r.field-0-0-is) in
    absurd (is_no_text (map string_bytes c.args.words.now) r.field-0 r.ensures.found r.command is asks)

pub returns-in-Ok-Some-Command-clause-other : goal.returns-in-Ok-Some-Command-clause-other
returns-in-Ok-Some-Command-clause-other g c none =
    let r = c.in-Ok-Some-Command in
    let is : r.field-0 ≡ Some (asked.Command r.command) = cc (r.field-0-is, r.field-0-0-is) in
    absurd (none (asked.Command r.command) ((r.ensures.found (asked.Command r.command)).0 is))

pub returns-in-Ok-Some-Command-clause-opens : goal.returns-in-Ok-Some-Command-clause-opens
returns-in-Ok-Some-Command-clause-opens g c tells =
    let r = c.in-Ok-Some-Command in
    let is : r.field-0 ≡ Some (asked.Command r.command) = cc (r.field-0-is, r.field-0-0-is) in
    of_command (map string_bytes c.args.words.now) r.field-0 r.ensures.found _ r.command is (c.run_command.ensures.opens tells)

pub returns-in-Ok-Some-Help-clause-runs : goal.returns-in-Ok-Some-Help-clause-runs
returns-in-Ok-Some-Help-clause-runs g c command says =
    let r = c.in-Ok-Some-Help in
    let is : r.field-0 ≡ Some (asked.Help r.topic) = cc (r.field-0-is, r.field-0-0-is) in
    absurd (help_is_no_command (map string_bytes c.args.words.now) r.field-0 r.ensures.found r.topic command is says)

pub returns-in-Ok-Some-Help-clause-other : goal.returns-in-Ok-Some-Help-clause-other
returns-in-Ok-Some-Help-clause-other g c none =
    let r = c.in-Ok-Some-Help in
    let is : r.field-0 ≡ Some (asked.Help r.topic) = cc (r.field-0-is, r.field-0-0-is) in
    absurd (none (asked.Help r.topic) ((r.ensures.found (asked.Help r.topic)).0 is))

pub returns-in-Ok-Some-Help-clause-opens : goal.returns-in-Ok-Some-Help-clause-opens
returns-in-Ok-Some-Help-clause-opens g c tells command says =
    let r = c.in-Ok-Some-Help in
    let is : r.field-0 ≡ Some (asked.Help r.topic) = cc (r.field-0-is, r.field-0-0-is) in
    absurd (help_is_no_command (map string_bytes c.args.words.now) r.field-0 r.ensures.found r.topic command is says)

pub returns-in-Ok-Some-Version-clause-runs : goal.returns-in-Ok-Some-Version-clause-runs
returns-in-Ok-Some-Version-clause-runs g c command says =
    let r = c.in-Ok-Some-Version in
    let is : r.field-0 ≡ Some asked.Version = cc (r.field-0-is, r.field-0-0-is) in
    absurd (version_is_no_command (map string_bytes c.args.words.now) r.field-0 r.ensures.found command is says)

pub returns-in-Ok-Some-Version-clause-other : goal.returns-in-Ok-Some-Version-clause-other
returns-in-Ok-Some-Version-clause-other g c none =
    let r = c.in-Ok-Some-Version in
    let is : r.field-0 ≡ Some asked.Version = cc (r.field-0-is, r.field-0-0-is) in
    absurd (none asked.Version ((r.ensures.found asked.Version).0 is))

pub returns-in-Ok-Some-Version-clause-opens : goal.returns-in-Ok-Some-Version-clause-opens
returns-in-Ok-Some-Version-clause-opens g c tells command says =
    let r = c.in-Ok-Some-Version in
    let is : r.field-0 ≡ Some asked.Version = cc (r.field-0-is, r.field-0-0-is) in
    absurd (version_is_no_command (map string_bytes c.args.words.now) r.field-0 r.ensures.found command is says)

pub returns-in-Ok-None-clause-runs : goal.returns-in-Ok-None-clause-runs
returns-in-Ok-None-clause-runs g c command says =
    absurd (asks_nothing (map string_bytes c.args.words.now) c.in-Ok-None.field-0 c.in-Ok-None.ensures.found c.in-Ok-None.field-0-is (asked.Command command) says)

pub returns-in-Ok-None-clause-text : goal.returns-in-Ok-None-clause-text
returns-in-Ok-None-clause-text g c asks = absurd (asks_for_no_text (map string_bytes c.args.words.now) c.in-Ok-None.field-0 c.in-Ok-None.ensures.found c.in-Ok-None.field-0-is asks)

pub returns-in-Ok-None-clause-opens : goal.returns-in-Ok-None-clause-opens
returns-in-Ok-None-clause-opens g c tells command says =
    absurd (asks_nothing (map string_bytes c.args.words.now) c.in-Ok-None.field-0 c.in-Ok-None.ensures.found c.in-Ok-None.field-0-is (asked.Command command) says)

pub returns-clause-other : goal.returns-clause-other
returns-clause-other g c none = absurd (work_asked (map string_bytes c.args.words.now) c.in-Err.ensures.memory none)

pub returns-in-Ok-Some-Serve-clause-runs : goal.returns-in-Ok-Some-Serve-clause-runs
returns-in-Ok-Some-Serve-clause-runs g c command says =
    let r = c.in-Ok-Some-Serve in
    let is : r.field-0 ≡ Some (asked.Serve r.field-0-0-0 r.field-0-0-1) = cc (r.field-0-is, r.field-0-0-is) in
    absurd (serving_is_no_command (map string_bytes c.args.words.now) r.field-0 r.ensures.found r.field-0-0-0 r.field-0-0-1 command is says)

pub returns-in-Ok-Some-Serve-clause-text : goal.returns-in-Ok-Some-Serve-clause-text
returns-in-Ok-Some-Serve-clause-text g c asks =
    let r = c.in-Ok-Some-Serve in
    let is : r.field-0 ≡ Some (asked.Serve r.field-0-0-0 r.field-0-0-1) = cc (r.field-0-is, r.field-0-0-is) in
    absurd (serving_is_no_text (map string_bytes c.args.words.now) r.field-0 r.ensures.found r.field-0-0-0 r.field-0-0-1 is asks)

pub returns-in-Ok-Some-Serve-clause-opens : goal.returns-in-Ok-Some-Serve-clause-opens
returns-in-Ok-Some-Serve-clause-opens g c tells command says =
    let r = c.in-Ok-Some-Serve in
    let is : r.field-0 ≡ Some (asked.Serve r.field-0-0-0 r.field-0-0-1) = cc (r.field-0-is, r.field-0-0-is) in
    absurd (serving_is_no_command (map string_bytes c.args.words.now) r.field-0 r.ensures.found r.field-0-0-0 r.field-0-0-1 command is says)
