-- A revision that ends, and the next one that begins.
use Rattle.std.proofs.Common.{◌≡◌, ℕ, zero, suc, ◌<◌, ◌≤◌, Bool, true, false, cond, List, length, Option, Some, None, refl, subst, sym, ap, ◌∙◌, arith}
use Rattle.std.proofs.Common.{true≢false}
use Rattle.std.specs.Prelude.{MatchOption, nat_lt, nat_le, nat_eq, not, is_some}
use Rattle.std.proofs.lemmas.Bool.Decides.{nat_tests}
use Rattle.svn_repo.specs.History.{History}
use Rattle.svn_repo.specs.Transactions.{OpenRevision, IsBegun}
use Rattle.svn_dump.specs.declared.sections.Limits.{Limits}
use Rattle.svn_dump.specs.declared.sections.Texts.{Texts}
use Rattle.svn_history.specs.declared.fault.LoadFault.{LoadFault}
use Rattle.svn_history.specs.declared.fault.LoadFault.TheVariants as faults
use Rattle.svn_history.specs.Steps.{draft_of, begun}
use Rattle.svn_history.specs.Loading.{NodesAt, EmptyCommits}
use Rattle.svn_history.specs.Parts.{Loading, IfKnown, LoadsNodes, Ends, revision_limit, may_begin, begin_fault, Begins}
use Rattle.svn_history.specs.Parts.{revision_0, revision, LoadsPart, NodesFault, outside, out_of_memory, RefusesNodes}
use Rattle.svn_history.specs.Parts.{EndsPart, RefusesNext, RefusesPart, bad_nodes, bad_next}
use Rattle.svn_history.proofs.Stepping.{begun_is}

pub begun_again : (h : History) (o : OpenRevision) → IsBegun h o → draft_of o ≡ begun o.history
begun_again h o is = begun_is h o is ∙ ap begun (sym is.0)

-- ---- the next revision

none_before : (rev : Option ℕ) → not (is_some rev) ≡ true → rev ≡ None
none_before None e = refl
none_before (Some r) e = absurd (true≢false (sym e))

-- what the tests of a revision's number say
can_begin : (rev : Option ℕ) (count next : ℕ) → begin_fault rev count next ≡ None
    → (nat_lt revision_limit next ≡ false) × (may_begin rev count next ≡ true)
can_begin rev count next e = by (nat_lt revision_limit next) (may_begin rev count next) refl refl e
  where
    by : (a b : Bool) → nat_lt revision_limit next ≡ a → may_begin rev count next ≡ b
        → cond a (Some faults.TooManyRevisions) (cond b None (Some faults.NotRising)) ≡ None
        → (nat_lt revision_limit next ≡ false) × (may_begin rev count next ≡ true)
    by true b p q h = absurd (cc)
    by false false p q h = absurd (cc)
    by false true p q h = (p, q)

begins_first : (rev : Option ℕ) (h : History) (number : ℕ) → number ≡ 0 → begin_fault rev (length h.roots) number ≡ None
    → Begins rev (Some number) h h
begins_first rev h number is e =
    let zero_fault : begin_fault rev (length h.roots) 0 ≡ None = subst (λ (n : ℕ). begin_fault rev (length h.roots) n ≡ None) is e in
    revision_0 (ap (λ (n : ℕ). Some n) is) (none_before rev (can_begin rev (length h.roots) 0 zero_fault).1) refl

later_number : (rev : Option ℕ) (count number : ℕ) → 0 < number → may_begin rev count number ≡ true → count ≤ number
later_number rev count number above e = by (nat_eq number 0) refl e
  where
    by : (b : Bool) → nat_eq number 0 ≡ b → cond b (not (is_some rev)) (nat_le count number) ≡ true → count ≤ number
    by true p q = absurd (grind (arith, nat_tests))
    by false p q = grind (arith, nat_tests)

begins_later : (rev : Option ℕ) (h h' : History) (number : ℕ) → 0 < number → begin_fault rev (length h.roots) number ≡ None
    → EmptyCommits h h' → (length h.roots ≤ number → length h'.roots ≡ number) → Begins rev (Some number) h h'
begins_later rev h h' number above e commits size =
    let can = can_begin rev (length h.roots) number e in
    let small : number ≤ revision_limit = (let test : nat_lt revision_limit number ≡ false = can.0 in grind (arith, nat_tests)) in
    revision number refl above small (record {
      commits = commits;
      size = size (later_number rev (length h.roots) number above can.1);
    })

pub begins_number : (rev : Option ℕ) (h h' : History) (number : ℕ) → begin_fault rev (length h.roots) number ≡ None → EmptyCommits h h'
    → (length h.roots ≤ number → length h'.roots ≡ number) → (number ≡ 0 → h' ≡ h) → Begins rev (Some number) h h'
begins_number rev h h' zero e commits size first =
    subst (λ (g : History). Begins rev (Some 0) h g) (sym (first refl)) (begins_first rev h 0 refl e)
begins_number rev h h' (suc n) e commits size first = begins_later rev h h' (suc n) (omega arith) e commits size

-- ---- a part

known_map : (left left' : Option (List ℕ)) (P Q : List ℕ → List ℕ → Type 0) → ((bytes rest : List ℕ) → P bytes rest → Q bytes rest)
    → IfKnown left left' P → IfKnown left left' Q
known_map None left' P Q f h = tt
known_map (Some bytes) None P Q f h = absurd h
known_map (Some bytes) (Some rest) P Q f h = f bytes rest h

pub part_by : (limits : Limits) (texts : Texts) (at : Option ℕ → List ℕ → Type 0) (old mid new : Loading) (rev next : Option ℕ)
    (ended filled : History) → LoadsNodes limits texts at old next mid → mid.rev ≡ old.rev → rev ≡ old.rev → Ends mid.rev mid.draft ended → Begins rev next ended filled
    → new.draft ≡ begun filled → new.rev ≡ next → new.left ≡ mid.left → LoadsPart limits texts old new
part_by limits texts at old mid new rev next ended filled nodes same same' ends begins start next_is left = record {
  nodes = nodes.nodes;
  bytes = subst (λ (l : Option (List ℕ)). IfKnown old.left l (λ bytes rest. NodesAt limits texts bytes nodes.nodes new.rev rest)) (sym left)
      (subst (λ (n : Option ℕ). IfKnown old.left mid.left (λ bytes rest. NodesAt limits texts bytes nodes.nodes n rest)) (sym next_is)
      (known_map old.left mid.left (λ bytes rest. (read : NodesAt limits texts bytes nodes.nodes next rest) × at old.rev read.mid)
      (λ bytes rest. NodesAt limits texts bytes nodes.nodes next rest) (λ bytes rest known. known.0) nodes.bytes));
  read = mid.draft;
  made = nodes.made;
  ended = ended;
  ended_is = subst (λ (r : Option ℕ). Ends r mid.draft ended) same ends;
  filled = filled;
  begins = subst (λ (n : Option ℕ). Begins old.rev n ended filled) (sym next_is)
      (subst (λ (r : Option ℕ). Begins r next ended filled) same' begins);
  draft = start;
}

-- ---- what is refused

pub nodes_refused : (limits : Limits) (texts : Texts) (at : Option ℕ → List ℕ → Type 0) (old : Loading) (e : LoadFault) (h : History)
    → RefusesNodes limits texts at old e → h ≡ old.draft.history → RefusesPart limits texts at old e h
nodes_refused limits texts at old e h why same = bad_nodes why same

pub end_refused : (limits : Limits) (texts : Texts) (at : Option ℕ → List ℕ → Type 0) (old : Loading) (e : LoadFault) (h : History)
    → e ≡ faults.Memory → h ≡ old.draft.history → RefusesPart limits texts at old e h
end_refused limits texts at old e h is same = bad_nodes (by old.left) same
  where
    by : (l : Option (List ℕ)) → MatchOption l (Unit {0}) (λ bytes. NodesFault limits texts at old.rev old.draft bytes e)
    by None = tt
    by (Some bytes) = outside (out_of_memory is)

ends_part : (limits : Limits) (texts : Texts) (at : Option ℕ → List ℕ → Type 0) (old mid : Loading) (next : Option ℕ) (ended : History)
    → LoadsNodes limits texts at old next mid → Ends old.rev mid.draft ended → EndsPart limits texts at old next ended
ends_part limits texts at old mid next ended nodes ends = record {
  nodes = nodes.nodes;
  bytes = by old.left mid.left nodes.bytes;
  read = mid.draft;
  made = nodes.made;
  ended_is = ends;
}
  where
    by : (left left' : Option (List ℕ))
        → IfKnown left left' (λ bytes rest. (read : NodesAt limits texts bytes nodes.nodes next rest) × at old.rev read.mid)
        → MatchOption left (Unit {0})
        (λ bytes. (rest : List ℕ) × (read : NodesAt limits texts bytes nodes.nodes next rest) × at old.rev read.mid)
    by None left' known = tt
    by (Some bytes) None known = absurd known
    by (Some bytes) (Some rest) known = (rest, known.0, known.1)

pub next_refused : (limits : Limits) (texts : Texts) (at : Option ℕ → List ℕ → Type 0) (old mid : Loading) (rev next : Option ℕ)
    (ended h : History) (e : LoadFault) → LoadsNodes limits texts at old next mid → mid.rev ≡ old.rev → rev ≡ old.rev
    → Ends mid.rev mid.draft ended → RefusesNext rev next ended e h → RefusesPart limits texts at old e h
next_refused limits texts at old mid rev next ended h e nodes same same' ends why =
    bad_next next ended
    (ends_part limits texts at old mid next ended nodes (subst (λ (r : Option ℕ). Ends r mid.draft ended) same ends))
    (subst (λ (r : Option ℕ). RefusesNext r next ended e h) same' why)

-- ---- the same limits, and texts kept the same

pub part_as : (limits limits' : Limits) (texts texts' : Texts) (old new : Loading) → limits' ≡ limits → texts' ≡ texts
    → LoadsPart limits' texts' old new → LoadsPart limits texts old new
part_as limits limits' texts texts' old new same same' h =
    subst (λ (t : Texts). LoadsPart limits t old new) same' (subst (λ (l : Limits). LoadsPart l texts' old new) same h)

pub refuses_as : (limits limits' : Limits) (texts texts' : Texts) (at : Option ℕ → List ℕ → Type 0) (old : Loading) (e : LoadFault) (h : History)
    → limits' ≡ limits → texts' ≡ texts → RefusesPart limits' texts' at old e h → RefusesPart limits texts at old e h
refuses_as limits limits' texts texts' at old e h same same' why =
    subst (λ (t : Texts). RefusesPart limits t at old e h) same' (subst (λ (l : Limits). RefusesPart l texts' at old e h) same why)
