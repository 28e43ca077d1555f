use Rattle.std.proofs.Common.{◌≡◌, ◌≢◌, codes, inr, rules, lit<, refl, sym, ap, subst, ◌∙◌, ⊎_elim}
use Rattle.std.specs.Str.Iter.{split_text, split_has_more, split_pattern, split_steps}
use Rattle.std.specs.Str.Pattern.{FindsChar}
use Rattle.std.proofs.lemmas.Bool.{false≢true}
use Rattle.std.proofs.lemmas.Iterator.{YieldsList}
use Rattle.std.proofs.lemmas.Iterator.Splits.{YieldsList-from_str_split}
use Rattle.std.proofs.lemmas.Result.{IfOk-weaker, IfErr-weaker}
use Rattle.std.proofs.lemmas.Slice.Eq.{bytes_eq-Decides}
use Rattle.trial.specs.Recordings.{parts, IsUnlisted}
use Rattle.trial.proofs.Parts.{columns_collected, no_column}
use Rattle.trial.proofs.recording.columns_in.Goals as goal

gives : (c : goal.After-try_collect) → YieldsList (split_steps FindsChar (λ a b. b ≡ a)) (λ x. x.now) c.map.result.iter (parts c.args.text.now)
gives c =
    YieldsList-from_str_split 44 c.args.text.now (lit< tt) (ap split_text c.map.ensures.source ∙ c.split.ensures.text)
    (ap split_has_more c.map.ensures.source ∙ c.split.ensures.has_more) (ap split_pattern c.map.ensures.source ∙ c.split.ensures.pattern)

pub returns-clause-ok : goal.returns-clause-ok
returns-clause-ok c =
    IfOk-weaker c.try_collect.result _ _
    (λ v k. inr (columns_collected {s = c.map.result} c.map.result.f (gives c) refl (λ x r q j. search rules)
    (λ w. w.items) _ k.1 v k.0 k.2 k.4 (search (rules, k.3)) (λ p r q added. (added.0, sym added.1, search (rules, added.2)))))
    c.try_collect.ensures.ran

pub returns-clause-err : goal.returns-clause-err
returns-clause-err c =
    let columns : c.args.text.now ≢ codes "." = λ is. false≢true (c.if-eq.ensures ∙ (bytes_eq-Decides c.args.text.now (codes ".")).1 is) in
    IfErr-weaker c.try_collect.result _ _
    (λ e why. ⊎_elim (λ full. subst (IsUnlisted c.args.text.now) (sym full.1) columns) (λ none. subst (IsUnlisted c.args.text.now) (sym none.1) (columns, none.0)) why)
    (no_column {s = c.map.result} c.map.result.f (gives c) refl (λ x r q j. search rules) _ c.try_collect.result c.try_collect.ensures.err)
