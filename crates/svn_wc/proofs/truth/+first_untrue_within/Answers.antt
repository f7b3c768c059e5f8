use Rattle.std.proofs.Common.{◌≡◌, ◌-◌, ◌∷◌, [], List, ℕ, Option, Bool, true, false, cond, length, refl, sym, ap, subst, ◌∙◌}
use Rattle.std.specs.Option.{option_copied, option_or}
use Rattle.svn_lists.proofs.Options.{copied_if, option_or-copied}
use Rattle.svn_types.specs.Names.{Path}
use Rattle.svn_model.specs.declared.base_node.BaseNode.{BaseNode}
use Rattle.svn_model.specs.Nodes.{get_in}
use Rattle.svn_model.specs.Tree.{names_at}
use Rattle.svn_wc.specs.Truths.{looked, entries_at, IsRest}
use Rattle.svn_wc.proofs.OwnPaths.{knows_own_path}
use Rattle.svn_wc.proofs.Deeper.{deeper_is_within, no_deeper_is_past, name_told, in_all}
use Rattle.svn_wc.proofs.Merging.{EntriesBeside, beside_begins}
use Rattle.svn_wc.proofs.Truly.{SoFar, walk_begins, front, front_is, walk_on, walk_ends, rest_of_both, names_sorted}
use Rattle.svn_wc.proofs.Truly.{has_child, names_count, none_missing, entry_told, entry_counts, beside_next}
use Rattle.svn_wc.proofs.Truly.{walks_alone, next_order}
use Rattle.svn_wc.proofs.truth.+first_untrue_within.Goals as goal

pub returns-in_default-clause-walked : goal.returns-in_default-clause-walked
returns-in_default-clause-walked t c = λ nodes before order shape whole found.
    let h = c.args.repo.now in
    let none = none_missing h c.args.node.now c.args.id.now c.in_default.ensures (get_in nodes) c.args.path.now in
    walks_alone h nodes (c.args.path.now, c.args.node.now) c.args.left.now c.is_untrue.result
    (c.is_untrue.ensures (get_in nodes) c.args.path.now none found) (option_copied c.then_some.result)
    (ap option_copied c.then_some.ensures ∙ copied_if c.is_untrue.result c.args.path)

pub below-init : goal.below-init
below-init t c =
    let h = c.args.repo.now in
    let all : c.iter-entries.result ≡ entries_at h c.args.id.now = c.iter-entries.ensures.rest ∙ c.in-Some.ensures in (
      ([], refl),
      λ nodes before order shape whole found. (
        walk_begins h nodes c.args.path.now c.args.left.now (names_at h c.args.id.now) c.len-missing.result
            (c.len-missing.ensures ∙ ap length c.in-Some.ensures ∙ sym (names_count h c.args.id.now)),
        subst (λ l. EntriesBeside c.args.path.now (entries_at h c.args.id.now) l c.args.left.now) (sym all)
            (beside_begins c.args.path.now (entries_at h c.args.id.now) c.args.left.now),
      ),
    )

pub below-preserved : goal.below-preserved
below-preserved t c =
    let h = c.args.repo.now in
    let id = c.args.id.now in
    let e : Path × BaseNode = (c.args.path.now, c.args.node.now) in
    let below = c.in-Some-next_deeper.below in
    let d : Path × BaseNode = (below.path.now, below.node.now) in
    let old = c.args.left.now in
    let left = c.next_deeper.new.left in
    let left2 = c.first_untrue_within-untrue.new.left in
    let entry = c.take_entry-entry.result in
    let step : c.below.left ≡ d ∷ left = c.in-Some-next_deeper.ensures.taken.0 in
    let rest : IsRest old (d ∷ left) = subst (IsRest old) step c.below.invariant.0 in (
      rest_of_both old left left2 d rest c.first_untrue_within-untrue.ensures.rest,
      λ nodes before order shape whole found.
          let names = names_at h id in
          let so = c.below.invariant.1 nodes before order shape whole found in
          let s : SoFar h nodes e.0 old names (d ∷ left) (option_copied c.below.first) c.below.missing =
          subst (λ (l : List (Path × BaseNode)). SoFar h nodes e.0 old names l (option_copied c.below.first) c.below.missing) step so.0 in
          let beside : EntriesBeside e.0 (entries_at h id) c.below.entries (d ∷ left) =
          subst (EntriesBeside e.0 (entries_at h id) c.below.entries) step so.1 in
          let sorted = names_sorted h c.law.ensures.history c.args.node.now id found in
          let depth = length c.components-depth.result.now in
          let is_depth = ap length c.components-depth.ensures.names in
          let within = deeper_is_within nodes order before e s.taken s.below depth is_depth d left
          (in_all nodes before e old s.taken (d ∷ left) whole s.parts) shape c.in-Some-next_deeper.ensures.taken.1 in
          let named = name_told e.0 d.0 depth is_depth within below.name c.in-Some-next_deeper.ensures.name in
          let known = knows_own_path e.0 e.1 c.of-above.result c.of-above.ensures in
          let took = c.take_entry-entry.ensures in
          let there : c.find_below-there.result ≡ looked h d.1 =
          c.find_below-there.ensures e.0 id known (found ∙ ap (λ (a : BaseNode × Bool). looked h a.0) (sym c.of-above.ensures)) named
          (entry_told h id e.0 c.below.entries c.take_entry-entry.new.entries d left beside sorted entry below.name named took) in
          let counts =
          entry_counts h id e.0 c.below.entries c.take_entry-entry.new.entries d left beside sorted entry below.name named took in
          let walked = c.first_untrue_within-untrue.ensures.walked nodes
          (front h nodes order before e old whole names d left (option_copied c.below.first) c.below.missing s) order shape
          (front_is h nodes order before e old whole names d left (option_copied c.below.first) c.below.missing s) there in
          let on = walk_on h nodes order before e old whole names d left (option_copied c.below.first) c.below.missing s
          within
          walked.taken walked.below sorted left2 walked.parts (option_copied c.first_untrue_within-untrue.result) walked.first in
          let first : option_or (option_copied c.below.first) (option_copied c.first_untrue_within-untrue.result)
          ≡ option_copied c.or-first.result =
          sym (ap option_copied c.or-first.ensures ∙ option_or-copied c.below.first c.first_untrue_within-untrue.result) in
          let missing : c.missing_without-missing.result ≡ c.below.missing - cond (has_child e.0 d.0 names) 1 0 =
          c.missing_without-missing.ensures ∙ ap (λ (b : Bool). c.below.missing - cond b 1 0) counts in (
            subst (λ (n : ℕ). SoFar h nodes e.0 old names left2 (option_copied c.or-first.result) n) (sym missing)
                (subst (λ (f : Option Path). SoFar h nodes e.0 old names left2 f (c.below.missing - cond (has_child e.0 d.0 names) 1 0))
                first on),
            beside_next h id e.0 c.below.entries c.take_entry-entry.new.entries d left beside sorted entry
                (next_order h nodes order before e old whole names d left (option_copied c.below.first) c.below.missing s)
                walked.taken left2 walked.parts below.name named took,
          ),
    )

pub returns-then-is_untrue-clause-walked : goal.returns-then-is_untrue-clause-walked
returns-then-is_untrue-clause-walked t c = λ nodes before order shape whole found.
    let h = c.args.repo.now in
    let e : Path × BaseNode = (c.args.path.now, c.args.node.now) in
    let s = (c.below.invariant.1 nodes before order shape whole found).0 in
    let ended = c.in_default-next_deeper.ensures.taken in
    let past = no_deeper_is_past nodes order before e s.taken s.below (length c.components-depth.result.now)
    (ap length c.components-depth.ensures.names) c.below.left (in_all nodes before e c.args.left.now s.taken c.below.left whole s.parts)
    ended.0 in
    walk_ends h nodes order before e c.args.left.now whole (names_at h c.args.id.now) c.below.left (option_copied c.below.first)
    c.below.missing s past _ ended.1 true
    (λ counted. sym c.if-is_untrue.true ∙ c.is_untrue-2.ensures (get_in nodes) e.0 counted found)

pub returns-else-is_untrue-clause-walked : goal.returns-else-is_untrue-clause-walked
returns-else-is_untrue-clause-walked t c = λ nodes before order shape whole found.
    let h = c.args.repo.now in
    let e : Path × BaseNode = (c.args.path.now, c.args.node.now) in
    let s = (c.below.invariant.1 nodes before order shape whole found).0 in
    let ended = c.in_default-next_deeper.ensures.taken in
    let past = no_deeper_is_past nodes order before e s.taken s.below (length c.components-depth.result.now)
    (ap length c.components-depth.ensures.names) c.below.left (in_all nodes before e c.args.left.now s.taken c.below.left whole s.parts)
    ended.0 in
    walk_ends h nodes order before e c.args.left.now whole (names_at h c.args.id.now) c.below.left (option_copied c.below.first)
    c.below.missing s past _ ended.1 false
    (λ counted. sym c.if-is_untrue.false ∙ c.is_untrue-2.ensures (get_in nodes) e.0 counted found)
