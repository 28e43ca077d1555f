use Rattle.std.proofs.Common.{◌≡◌, ℕ, ◌*◌, List, take, ap, ◌∙◌, subst, refl, arith}
use Rattle.words.specs.Rows.{width}
use Rattle.loading.specs.Drafts.{PutAt}
use Rattle.loading.specs.Lines.{IsRow}
use Rattle.loading.proofs.draft.Draft.row.Goals as goal

pub returns : goal.returns
returns c =
    let d = c.args.self.now in
    let cells : List ℕ = take (width d.places) c.in-Some.cells in
    let long : c.row_length-length.result ≡ width d.places = c.row_length-length.ensures.is ∙ ap width c.from.ensures in
    let is : IsRow d.places d.rows c.args.line.now cells = c.in-Some.ensures.1 in (
      ((λ short. omega (arith, c.room_for.ensures.is)), ((λ full. omega arith), ((λ none. none cells is), tt))),
      refl,
      refl,
      cells,
      is,
      subst (λ l. PutAt (d.rows * l) (take l c.in-Some.cells) c.args.memory.now c.put_at.new.memory) long
          (subst (λ r. PutAt (r * c.row_length-length.result) (take c.row_length-length.result c.in-Some.cells) c.args.memory.now c.put_at.new.memory)
          c.from-2.ensures c.put_at.ensures),
    )
