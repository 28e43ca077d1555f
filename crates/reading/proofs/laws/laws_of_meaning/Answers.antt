use Rattle.reading.proofs.MeaningLaws.{meaning_laws, whole_laws}
use Rattle.reading.proofs.laws.laws_of_meaning.Goals as goal

pub returns-clause-meaning : goal.returns-clause-meaning
returns-clause-meaning g c = meaning_laws

pub returns-clause-whole : goal.returns-clause-whole
returns-clause-whole g c = whole_laws (g.B.Book.holds c.args._book.now)
