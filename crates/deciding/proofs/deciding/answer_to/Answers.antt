use Rattle.std.proofs.Common.{ap, sym, ◌∙◌, refl, inr}
use Rattle.checks.specs.Layers.{layer_of}
use Rattle.deciding.proofs.deciding.answer_to.Goals as goal

pub returns-in-Err-judge_text : goal.returns-in-Err-judge_text
returns-in-Err-judge_text g c = (
  c.layer-in-Err-judge_text.ensures ∙ ap layer_of (sym c.number-in-Err-judge_text.ensures),
  inr (
    c.in-Ok.field-0.settings,
    c.in-Ok.field-0.text.now,
    c.in-Ok.ensures,
    c.in-Err-judge_text.field-0,
    c.in-Err-judge_text.ensures,
    c.number-in-Err-judge_text.ensures,
    refl,
  ),
)
