use Rattle.std.proofs.Common.{◌≡◌, ℕ, ◌∷◌, [], None, List, sym, ap, subst, ◌∙◌}
use Rattle.svn_types.proofs.NameLemmas.{Name}
use Rattle.svn_wc.specs.Truths.{PassesTo}
use Rattle.svn_nodes.specs.Ahead.{behind_first}
use Rattle.svn_wc.proofs.Merging.{Passing, passing_on, passed_at, passed_before, passed_none}
use Rattle.svn_wc.proofs.truth.pass_to.Goals as goal

pub entries-preserved : goal.entries-preserved
entries-preserved c =
    let e : Name × ℕ = (c.in-Some.next.now, c.in-Some.id.now) in
    let step : c.entries.entries ≡ e ∷ c.advance.new.self =
    c.in-Some.ensures ∙ ap (λ (l : List (Name × ℕ)). e ∷ l) (sym c.advance.ensures) in
    passing_on c.args.name.now c.args.entries.now e c.advance.new.self
    (subst (Passing c.args.name.now c.args.entries.now) step c.entries.invariant) (sym c.cmp.ensures ∙ c.in-Less.is)

pub returns-in-Equal : goal.returns-in-Equal
returns-in-Equal c =
    let e : Name × ℕ = (c.in-Some.next.now, c.in-Some.id.now) in
    let step : c.entries.entries ≡ e ∷ c.advance-in-Equal.new.self =
    c.in-Some.ensures ∙ ap (λ (l : List (Name × ℕ)). e ∷ l) (sym c.advance-in-Equal.ensures) in
    passed_at c.args.name.now c.args.entries.now e c.advance-in-Equal.new.self
    (subst (Passing c.args.name.now c.args.entries.now) step c.entries.invariant) (sym c.cmp.ensures ∙ c.in-Equal.is)

pub returns-in-Greater : goal.returns-in-Greater
returns-in-Greater c =
    let e : Name × ℕ = (c.in-Some.next.now, c.in-Some.id.now) in
    let left : List (Name × ℕ) = behind_first c.entries.entries in
    let step : c.entries.entries ≡ e ∷ left = c.in-Some.ensures in
    subst (λ (l : List (Name × ℕ)). PassesTo c.args.name.now c.args.entries.now None l) (sym step)
    (passed_before c.args.name.now c.args.entries.now e left (subst (Passing c.args.name.now c.args.entries.now) step c.entries.invariant)
    (sym c.cmp.ensures ∙ c.in-Greater.is))

pub returns : goal.returns
returns c =
    let ended : c.entries.entries ≡ [] = c.in_default.ensures in
    subst (λ (l : List (Name × ℕ)). PassesTo c.args.name.now c.args.entries.now None l) (sym ended)
    (passed_none c.args.name.now c.args.entries.now (subst (Passing c.args.name.now c.args.entries.now) ended c.entries.invariant))
