use Rattle.std.proofs.Common.{◌≡◌, ℕ, List, [], ◌∷◌, ◌++◌, drop, subst, sym, ap, ◌∙◌}
use Rattle.std.specs.Prelude.{⊤}
use Rattle.std.proofs.KnownBytes.{Appends-nil, Appends-trans}
use Rattle.std.proofs.lemmas.List.{drop-append-le}
use Rattle.svn_lists.proofs.Options.{when_none}
use Rattle.svn_types.specs.Names.{Path}
use Rattle.svn_types.specs.Pairs.{InNameOrder}
use Rattle.svn_repo.specs.Readings.{entries_of}
use Rattle.svn_answers.proofs.TreeOrder.{IsBegun, begun, leaf_shown, all_shown, entry_put, lines_joined}
use Rattle.svn_answers.proofs.show.+write_part.Goals as goal

pub returns-in_default-clause-written : goal.returns-in_default-clause-written
returns-in_default-clause-written g t c =
    let from = c.args.from.now in (
      _,
      leaf_shown from.repo.now from.rev (drop from.front c.args.path.now) c.args.path.now c.args.id
          (when_none c.entries.result (entries_of from.repo.now c.args.id ≡ []) (λ _. ⊤) c.in_default.not-Some c.entries.ensures.leaf),
      c.in_ok-write_one.ensures.written,
    )

pub loop-name-init : goal.loop-name-init
loop-name-init g t c =
    let from = c.args.from.now in
    let e1 : c.into_iter-name-iterator.result ≡ c.iter-name-items.result = c.into_iter-name-iterator.ensures.into_iter_gives in
    let e2 : c.iter-name-items.result ≡ c.in-Some.entries.now = c.iter-name-items.ensures.rest in
    let e3 : c.in-Some.entries.now ≡ entries_of from.repo.now c.args.id = c.in-Some.ensures.listing in (
      [],
      begun from.repo.now from.rev (drop from.front c.args.path.now) c.args.path.now c.args.id c.into_iter-name-iterator.result
          (subst (λ (l : List (List ℕ × ℕ)). InNameOrder l) (sym (e1 ∙ e2)) c.iter-name-items.ensures.ordered)
          (e1 ∙ e2 ∙ e3),
      Appends-nil _,
    )

pub loop-name-preserved : goal.loop-name-preserved
loop-name-preserved g t c =
    let from = c.args.from.now in
    let path : Path = c.args.path.now in
    let name = c.in-Some-2.name.now in
    let is_below : c.in_ok-below.below ≡ path ++ name ∷ [] = c.in_ok-below.ensures.path in
    let is_at : drop from.front c.in_ok-below.below ≡ drop from.front path ++ name ∷ [] =
    ap (drop from.front) is_below ∙ drop-append-le from.front path (name ∷ []) c.requires in
    let step : c.loop-name.name-iterator ≡ (name, c.in-Some-2.child.now) ∷ c.next.new.self = c.in-Some-2.ensures.steps in
    let before = c.loop-name.invariant in
    let done =
    subst (λ (l : List (List ℕ × ℕ)). IsBegun from.repo.now from.rev (drop from.front path) path c.args.id l before.0) step before.1 in
    let part = c.in_ok-write_part.ensures.written in (
      before.0 ++ part.1.nodes,
      entry_put from.repo.now from.rev (drop from.front path) path c.args.id (name, c.in-Some-2.child.now) c.next.new.self before.0
          part.1.nodes (drop from.front c.in_ok-below.below) c.in_ok-below.below is_at is_below done part.1.puts part.1.in_order,
      lines_joined _ _ _ before.0 part.1.nodes part.0 before.2 part.2 part.1.lines,
    )

pub returns-clause-written : goal.returns-clause-written
returns-clause-written g t c =
    let from = c.args.from.now in
    let step : c.loop-name.name-iterator ≡ [] = c.in-None.ensures.steps.0 in
    let before = c.loop-name.invariant in
    let path : Path = c.args.path.now in (
      _,
      all_shown from.repo.now from.rev (drop from.front path) path c.args.id before.0
          (subst (λ (l : List (List ℕ × ℕ)). IsBegun from.repo.now from.rev (drop from.front path) path c.args.id l before.0) step before.1),
      Appends-trans _ _ _ _ _ c.in_ok-write_one.ensures.written before.2,
    )
