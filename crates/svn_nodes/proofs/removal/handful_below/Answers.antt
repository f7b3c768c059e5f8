use Rattle.std.proofs.Common.{◌≡◌, ◌∷◌, ◌++◌, ◌&&◌, [], List, true, false, sym, ap, subst, ◌∙◌, Option, Some, rules}
use Rattle.std.specs.Option.{is_some}
use Rattle.svn_types.specs.Names.{Path}
use Rattle.svn_types.specs.Paths.{is_within}
use Rattle.svn_model.specs.declared.base_node.BaseNode.{BaseNode}
use Rattle.svn_model.specs.Nodes.{InPathOrder, get_in}
use Rattle.svn_nodes.specs.Handfuls.{is_noted}
use Rattle.svn_nodes.proofs.Ranges.{from_path, nodes_behind, from_behind, below_there, paths_are, taken_below, order_run}
use Rattle.svn_nodes.proofs.Ranges.{taken_none, IsPast, nothing_left, outside_next}
use Rattle.svn_nodes.proofs.Removals.{Noted, noted_none, noted_more, noted_paths}
use Rattle.svn_nodes.proofs.removal.handful_below.Goals as goal
use Rattle.svn_nodes.proofs.removal.handful_below.Goals.{in-None, in-Some+then-not-is_within}

pub loop-other-init : goal.loop-other-init
loop-other-init c =
    let path = c.args.path.now in
    let behind = nodes_behind path c.args.nodes.now.entries in
    noted_none path behind c.new-paths.result.items c.into_iter-other-iterator.result c.new-paths.ensures
    (taken_none path behind c.into_iter-other-iterator.result (c.into_iter-other-iterator.ensures.into_iter_gives
    ∙ c.range-other-items.ensures.between tt ∙ sym (from_behind path c.args.nodes.now.entries)))

pub loop-other-preserved : goal.loop-other-preserved
loop-other-preserved c =
    let e : Path × BaseNode = (c.in-Some.other.now, c.in-Some.field-0-1.now) in
    let step : c.loop-other.other-iterator ≡ e ∷ c.next.new.self = c.in-Some.ensures.steps in
    let behind = nodes_behind c.args.path.now c.args.nodes.now.entries in
    let inv = rw step at c.loop-other.invariant in
    let key : c.in_ok-clone.field-0 ≡ c.in-Some.other.now = c.in_ok-clone.ensures.cases in
    let items : c.push.new.self.items ≡ c.loop-other.paths.items ++ Some c.in_ok-clone.field-0 ∷ [] = c.push.ensures.items in
    let within : is_within c.args.path.now c.in-Some.other.now ≡ true = search rules in
    subst (λ (l : List (Option Path)). Noted c.args.path.now behind l c.next.new.self)
    (sym (items ∙ ap (λ (q : Path). c.loop-other.paths.items ++ Some q ∷ []) key))
    (noted_more c.args.path.now behind c.loop-other.paths.items e c.next.new.self inv within)

pub returns-clause-below : goal.returns-clause-below
returns-clause-below c = λ p out.
    let noted = c.loop-other.invariant in
    ap (λ (l : List (Option Path)). is_noted l p) noted.are ∙ noted_paths noted.paths p
    ∙ taken_below c.args.path.now p c.args.nodes.now.entries noted.paths c.loop-other.other-iterator noted.taken out

pub returns-then-is_full-clause-below : goal.returns-then-is_full-clause-below
returns-then-is_full-clause-below c = λ p out.
    let noted = c.loop-other.invariant in
    ap (λ (l : List (Option Path)). is_noted l p) noted.are ∙ noted_paths noted.paths p
    ∙ taken_below c.args.path.now p c.args.nodes.now.entries noted.paths c.loop-other.other-iterator noted.taken out

pub returns-clause-all : goal.returns-clause-all
returns-clause-all c = λ short p below.
    let path = c.args.path.now in
    let es = c.args.nodes.now.entries in
    let behind = nodes_behind path es in
    let range = c.range-other-items.ensures in
    let noted = c.loop-other.invariant in
    let order : InPathOrder (from_path path behind) =
    subst (λ (l : List (Path × BaseNode)). InPathOrder l) (sym range.contiguous.2 ∙ range.between tt ∙ sym (from_behind path es))
    (order_run es range.contiguous.0 range.contiguous.1 range.ordered) in
    ap (λ (l : List (Option Path)). is_noted l p) noted.are ∙ noted_paths noted.paths p
    ∙ paths_are path behind noted.paths c.loop-other.other-iterator noted.taken order
    (elim c.match-next.branch [
      | in-None w ↦ let none : c.loop-other.other-iterator ≡ [] = w.in-None.ensures.steps.0 in
          subst (λ (l : List (Path × BaseNode)). IsPast path l) (sym none) nothing_left
      | in-Some+then-not-is_within w ↦
          let step : c.loop-other.other-iterator ≡ (w.in-Some.other.now, w.in-Some.field-0-1.now) ∷ c.next.new.self =
          w.in-Some.ensures.steps in
          let out : is_within path w.in-Some.other.now ≡ false = search rules in
          subst (λ (l : List (Path × BaseNode)). IsPast path l) (sym step)
          (outside_next (w.in-Some.other.now, w.in-Some.field-0-1.now) c.next.new.self out)
    ]) p
    ∙ below_there path p es ∙ ap (λ b. b && is_some (get_in es p)) below
