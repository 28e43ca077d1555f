use Rattle.std.proofs.Common.{rules, ◌≡◌, ◌-◌, length, arith}
use Rattle.tray.specs.View.{slot}
use Rattle.tray.proofs.Hidings.{hidden_aside}
use Rattle.tray.proofs.control.Control.explore_hidden.Goals as goal

pub returns : goal.returns
returns c =
    let k = c.args.self.now in
    let room = c.requires.room in
    let back : length c.split_at_mut-rows.result.1.now ≡ length c.args.spare.now - c.slot_length.result = omega (arith, c.split_at_mut-rows.ensures.back_len) in
    hidden_aside k.sets k.budget c.args.table.now.rows c.requires.ready.0 c.args.set _ _ c.tabulate_hidden.ensures.owners
    c.split_at_mut-rows.result.1.now c.tabulate_hidden.new.out (
      (
        record {
          sets = room.sets;
          some = room.some;
          few = room.few;
          records_enough = room.records_enough;
          links_enough = room.links_enough;
          rows_enough = omega (arith, room.rows_enough, c.slot_length.ensures.is, c.split_at_mut-rows.ensures.front_len);
        },
        omega (arith, back, c.slot_length.ensures.is, c.requires.work),
      ),
      c.requires.ready.1,
      c.requires.ready.2,
    )
    _ (slot k) c.tabulate_hidden.result (search rules) c.tabulate_hidden.ensures.found
