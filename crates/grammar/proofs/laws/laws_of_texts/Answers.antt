use Rattle.grammar.proofs.TextLaws.{text_laws}
use Rattle.grammar.proofs.laws.laws_of_texts.Goals as goal

pub returns : goal.returns
returns c = text_laws
