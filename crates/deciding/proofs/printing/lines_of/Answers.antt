use Rattle.std.proofs.Common.{ap, ◌∙◌, sym}
use Rattle.deciding.specs.Printed.{answer_text}
use Rattle.deciding.proofs.Lines.{whole}
use Rattle.deciding.proofs.printing.lines_of.Goals as goal

pub returns-in-Refused : goal.returns-in-Refused
returns-in-Refused c = whole c.put_refusal.ensures c.new-lines.ensures ∙ ap answer_text (sym c.in-Refused.is)

pub returns-in-Judged : goal.returns-in-Judged
returns-in-Judged c = whole c.put_judged.ensures c.new-lines.ensures ∙ ap answer_text (sym c.in-Judged.is)
