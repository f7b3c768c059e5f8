use Rattle.std.proofs.Common.{◌≡◌, ◌-◌, List, length, sym, ◌∙◌, ap, subst, arith}
use Rattle.std.specs.List.Sorted.{IsStrictlySortedBy}
use Rattle.std.specs.Map.{keys_of}
use Rattle.std.proofs.lemmas.List.{length-map}
use Rattle.svn_types.specs.Names.{name_cmp}
use Rattle.svn_types.proofs.NameLemmas.{Name}
use Rattle.svn_name_map.proofs.Zipped.{place_from_gap, gap_behind, found_from_equal, searched}
use Rattle.svn_name_map.proofs.run.Run.find.Goals as goal

pub returns-in-Less : goal.returns-in-Less
returns-in-Less g c =
    let ks = c.names-names.result.now in
    let are : ks ≡ keys_of c.args.self.now = c.names-names.ensures.names in
    let order : IsStrictlySortedBy name_cmp ks = subst (λ (l : List Name). IsStrictlySortedBy name_cmp l) (sym are) c.names-names.ensures.ordered in
    place_from_gap c.args.self.now ks c.args.name.now (length ks) are
    (gap_behind ks c.args.name.now c.index-names-last.result order
    (omega (arith, ap length are, length-map c.args.self.now (λ e. e.0), c.names-names.ensures.some)) c.index-names-last.is
    (sym c.cmp.ensures ∙ c.in-Less.is))

pub returns-in-Equal : goal.returns-in-Equal
returns-in-Equal g c =
    let ks = c.names-names.result.now in
    let are : ks ≡ keys_of c.args.self.now = c.names-names.ensures.names in
    found_from_equal c.args.self.now ks c.args.name.now c.index-names-last.result (length ks - 1) are
    (omega (arith, ap length are, length-map c.args.self.now (λ e. e.0), c.names-names.ensures.some)) c.index-names-last.is
    (sym c.cmp.ensures ∙ c.in-Equal.is)

pub returns-in-Greater : goal.returns-in-Greater
returns-in-Greater g c =
    let ks = c.names-names.result.now in
    let are : ks ≡ keys_of c.args.self.now = c.names-names.ensures.names in
    searched c.args.self.now ks c.args.name.now c.binary_search.result are
    (subst (λ (l : List Name). IsStrictlySortedBy name_cmp l) (sym are) c.names-names.ensures.ordered)
    c.binary_search.ensures.bound c.binary_search.ensures.ok c.binary_search.ensures.position
