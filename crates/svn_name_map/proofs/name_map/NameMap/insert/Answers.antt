use Rattle.std.proofs.Common.{◌+◌, Some, List, subst, sym, ◌<◌, ◌-◌, ◌^◌, arith}
use Rattle.svn_types.specs.Pairs.{ChangesOnly}
use Rattle.svn_types.proofs.NameLemmas.{Name}
use Rattle.svn_name_map.specs.Runs.{joined}
use Rattle.svn_name_map.proofs.Changed.{IsCounted, changes_put, counted_put}
use Rattle.svn_name_map.proofs.name_map.NameMap.insert.Goals as goal

pub invariant_of-self-2 : goal.invariant_of-self-2
invariant_of-self-2 g c =
    let full = c.if-self-eq-MAX_LEN.false in
    let bound = c.self.invariant.2 in
    let room : c.self.inside.len < 2 ^ 63 - 1 = omega (arith, full, bound) in
    subst (λ n. IsCounted (joined c.insert_pair.new.runs.items) (c.self.inside.len + n)) (sym c.from.ensures)
    (counted_put (joined c.self.inside.runs.items) (joined c.insert_pair.new.runs.items) c.self.inside.len c.args.name c.args.value
    c.in_ok-before.before c.is_none.result c.self.invariant room c.in_ok-before.ensures.before c.is_none.ensures c.in_ok-before.ensures.put)

pub returns-clause-lookups : goal.returns-clause-lookups
returns-clause-lookups g c =
    rw (← c.self.view_is)
    (subst (λ (es : List (Name × _)). ChangesOnly (joined c.self.inside.runs.items) es c.args.name (Some c.args.value))
    (sym c.in_ok-before.ensures.put) (changes_put (joined c.self.inside.runs.items) c.args.name c.args.value))
