use Rattle.words.proofs.Bits.{same_members, value_is}
use Rattle.words.proofs.Coding.{coded_members, every_choice, zeros_at_end}
use Rattle.words.proofs.Orders.{word_order}
use Rattle.words.proofs.laws.laws_of_words.Goals as goal

pub returns : goal.returns
returns c = record {
  same_members = same_members;
  value_of_set = value_is;
  coded_members = coded_members;
  every_choice = every_choice;
  zeros_at_end = zeros_at_end;
  word_order = word_order;
}
