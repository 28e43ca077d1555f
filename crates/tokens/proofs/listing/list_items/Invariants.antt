use Rattle.std.proofs.Common.{length, ◌-◌, ◌≡◌, ◌≤◌, ◌++◌, take, drop}
use Rattle.tokens.specs.Pieces.{pieces}
use Rattle.tokens.specs.Items.{items_of, items_from}
use Rattle.tokens.proofs.listing.list_items.Given as goal

-- the pieces before `at` are listed
abbrev pub invariant-loop-part : goal.invariant-loop-part
invariant-loop-part g l = record {
  within : l.at ≤ length l.text;
  few : l.count ≤ l.at;
  known : l.letters.many ≤ l.count;
  room : length l.items ≡ length l.initial.items;
  behind : drop l.count l.items ≡ drop l.count l.initial.items;
  read :
      items_of (g.B.NamedBook.numbered l.book) (g.B.Book.automaton l.book) l.text
      ≡ take l.count l.items
      ++ items_from (g.B.NamedBook.numbered l.book) (g.B.Book.automaton l.book) (take l.letters.many l.letters.seen) (pieces l.at (drop l.at l.text));
}

abbrev pub decreases-loop-part : goal.decreases-loop-part
decreases-loop-part g l = length l.text - l.at
