-- Each stands in its place.
use Rattle.ja_host.proofs.answering.scripts.Goals as goal

pub returns : goal.returns
returns c = record {
  input = c.in_ok-input.input;
  number = c.in_ok-number.number;
  text = c.in_ok-text.text;
  print = c.in_ok-print.print;
  listed = c.in_ok-scripts.ensures.items;
  is_input = c.in_ok-input.ensures;
  is_number = c.in_ok-number.ensures;
  is_text = c.in_ok-text.ensures;
  is_print = c.in_ok-print.ensures;
}
