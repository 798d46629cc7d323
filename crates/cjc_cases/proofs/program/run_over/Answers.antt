use Rattle.cjc_cases.proofs.program.run_over.Goals as goal

pub returns : goal.returns
returns c = record {
  runs = c.run.ensures.runs;
  unread = c.run.ensures.unread;
  text = c.run.ensures.text;
  other = c.run.ensures.other;
  quiet = c.run.ensures.quiet;
  conf = c.run.ensures.conf;
  stores = c.run.ensures.stores;
  input = c.run.ensures.input;
  output = c.run.ensures.output;
  opens = c.run.ensures.opens;
}
