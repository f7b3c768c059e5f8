use Rattle.std.proofs.Common.{◌≡◌, ◌≤◌, ◌-◌, ◌/◌, ◌++◌, length, ◌∙◌, arith}
use Rattle.std.specs.List.{insert}
use Rattle.svn_lists.proofs.Parts.{insert_before, insert_behind}
use Rattle.svn_types.proofs.NameLemmas.{Name}
use Rattle.svn_name_map.proofs.Zipped.{place_before, place_behind}
use Rattle.svn_name_map.proofs.run.Run.with.Goals as goal
use Rattle.svn_name_map.proofs.run.Run.with.Goals.{then-place-half+in_ok-insert, else-place-half+in_ok-insert-2}

pub insert-requires : goal.insert-requires
insert-requires g c =
    let half = c.len-half.result / 2 in
    place_before c.args.self.now c.args.name c.args.place half c.requires.place c.in_ok-before.before c.in_ok-before.ensures.before
    c.if-place-half.true (omega (arith, c.len-half.ensures.length))

pub insert-requires-else-place-half : goal.insert-requires-else-place-half
insert-requires-else-place-half g c =
    let half = c.len-half.result / 2 in
    place_behind c.args.self.now c.args.name c.args.place half c.requires.place c.in_ok-before.after c.in_ok-before.ensures.after
    (omega (arith, c.if-place-half.false))

pub returns : goal.returns
returns g c =
    let es = c.args.self.now in
    let e : Name × g.row.V.Denot = (c.args.name, c.args.value) in
    let half = c.len-half.result / 2 in
    let within : half ≤ length es = omega (arith, c.len-half.ensures.length) in
    elim c.if-place-half.branch [
      | then-place-half+in_ok-insert w ↦
          let parts : c.if-place-half.before ++ c.if-place-half.after ≡ insert c.in_ok-before.before c.args.place e ++ c.in_ok-before.after =
          cc w.in_ok-insert.ensures.ok in
          parts ∙ (λ i. insert (c.in_ok-before.ensures.before i) c.args.place e ++ c.in_ok-before.ensures.after i)
          ∙ insert_before es e c.args.place half w.if-place-half.true within
      | else-place-half+in_ok-insert-2 w ↦
          let parts : c.if-place-half.before ++ c.if-place-half.after ≡ c.in_ok-before.before ++ insert c.in_ok-before.after (c.args.place - half) e =
          cc w.in_ok-insert-2.ensures.ok in
          parts ∙ (λ i. c.in_ok-before.ensures.before i ++ insert (c.in_ok-before.ensures.after i) (c.args.place - half) e)
          ∙ insert_behind es e c.args.place half (omega (arith, w.if-place-half.false)) within
    ]
