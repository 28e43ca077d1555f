use Rattle.std.proofs.Common.{◌≡◌, ◌<◌, length, subst, refl, arith}
use Rattle.loading.specs.Drafts.{IsNames, room}
use Rattle.loading.proofs.NamesApart.{one_names}
use Rattle.loading.proofs.draft.Draft.begin.Goals as goal

pub returns : goal.returns
returns c =
    let is : IsNames c.args.line.now c.in-Some.places = c.in-Some.ensures in (
      (
        (λ none. none c.in-Some.places is),
        (
          (λ short.
              let same : short.0 ≡ c.in-Some.places = one_names c.args.line.now short.0 c.in-Some.places short.1 is in
              let few : length c.args.memory.now < room c.in-Some.places = subst (λ k. length c.args.memory.now < room k) same short.2 in
              omega (arith, few, c.room_for.ensures.is, c.if-memory-room_for.false)),
          tt,
        ),
      ),
      is,
      refl,
    )
