-- A dump that is loaded to its end: its revisions, and what loading them makes.
use Rattle.std.proofs.Common.{◌≡◌, ℕ, ◌<◌, Bool, true, false, cond, List, [], ◌∷◌, ◌++◌, Option, Some, None, Ok, Err, refl, subst, sym, ap, ◌∙◌, arith}
use Rattle.std.proofs.Common.{true≢false}
use Rattle.std.specs.Prelude.{IsSome, MatchOption, fold}
use Rattle.std.proofs.lemmas.Bool.Decides.{nat_tests}
use Rattle.svn_repo.specs.declared.change.Change.{Change}
use Rattle.svn_repo.specs.History.{History}
use Rattle.svn_repo.specs.Changes.{changes_fault, IsCommit, IsRevision}
use Rattle.svn_dump.specs.declared.fault.DumpFault.TheVariants as dump
use Rattle.svn_dump.specs.declared.record.NodeRecord.{NodeRecord}
use Rattle.svn_dump.specs.declared.sections.Limits.{Limits}
use Rattle.svn_dump.specs.declared.sections.Texts.{Texts}
use Rattle.svn_history.specs.declared.fault.LoadFault.{LoadFault}
use Rattle.svn_history.specs.declared.fault.LoadFault.TheVariants as faults
use Rattle.svn_history.specs.Results.{◌>>=◌}
use Rattle.svn_history.specs.Steps.{Draft, begun, with_changes, Changes, Step, nothing, refused, ◌>>◌, IsMade}
use Rattle.svn_history.specs.Changes.{record_changes, revision_changes}
use Rattle.svn_history.specs.Loading.{NodesAt, FillsGap, Revisions, RevisionsAt, last_revision, one_more, IsDump, empty_dump, some_revisions, Loads, loads_nothing, revision_0, LoadsDump}
use Rattle.svn_history.specs.Loading.{one_revision}
use Rattle.svn_history.specs.Parts.{Loading, IfKnown, is_open, node_changes, nodes_changes, Ends, commits, stays, Begins, at_end, revision, LoadsPart, LoadsOn, last_part, one_part}
use Rattle.svn_history.specs.Parts.{LoadsAll, no_part, some_parts, LoadsOne, goes_on, begins, ends, LoadsRest}
use Rattle.svn_history.specs.Parts.{NodesFault, outside, read_fault, bad_nodes, RefusesOne, at_once, RefusesAll, after_one}
use Rattle.svn_history.specs.Parts.{revision_0 as begins_0}

-- ---- a revision without nodes

step_fails : (a b : Step) (d : Draft) (e : LoadFault) → a d ≡ Err e → (a >> b) d ≡ Err e
unfolding ◌>>◌
step_fails a b d e is =
    let F : Changes → Changes = λ r. r >>= λ made. b (with_changes d made) >>= λ more. Ok (made ++ more) in ap F is

step_refused : (a b : Step) (d : Draft) (made : List Change) (e : LoadFault) → a d ≡ Ok made → b (with_changes d made) ≡ Err e
    → (a >> b) d ≡ Err e
unfolding ◌>>◌
step_refused a b d made e is fails =
    let F : Changes → Changes = λ r. r >>= λ made. b (with_changes d made) >>= λ more. Ok (made ++ more) in
    let G : Changes → Changes = λ r. r >>= λ more. Ok (made ++ more) in
    ap F is ∙ ap G fails

abbrev Taking : Texts → Option ℕ → Step → List NodeRecord → Step
Taking texts rev step nodes = fold (λ before node. before >> node_changes texts rev node) step nodes

all_fail : (texts : Texts) (rev : Option ℕ) (step : Step) (nodes : List NodeRecord) (d : Draft) (e : LoadFault) → step d ≡ Err e
    → Taking texts rev step nodes d ≡ Err e
all_fail texts rev step [] d e is = is
all_fail texts rev step (n ∷ ns) d e is =
    all_fail texts rev (step >> node_changes texts rev n) ns d e (step_fails step (node_changes texts rev n) d e is)

no_nodes : (texts : Texts) (rev : Option ℕ) (nodes : List NodeRecord) (d : Draft) (cs : List Change) → is_open rev ≡ false
    → nodes_changes texts rev nodes d ≡ Ok cs → nodes ≡ []
no_nodes texts rev [] d cs closed is = refl
no_nodes texts rev (n ∷ ns) d cs closed is =
    let homeless : node_changes texts rev n (with_changes d []) ≡ Err faults.NoRevision =
    ap (λ (b : Bool). cond b (record_changes texts n) (refused faults.NoRevision) (with_changes d [])) closed in
    let fails : Taking texts rev (nothing >> node_changes texts rev n) ns d ≡ Err faults.NoRevision =
    all_fail texts rev (nothing >> node_changes texts rev n) ns d faults.NoRevision
    (step_refused nothing (node_changes texts rev n) d [] faults.NoRevision refl homeless) in
    absurd (cc)

-- ---- a revision that ends

same_changes : (texts : Texts) (rev : Option ℕ) (nodes : List NodeRecord) → is_open rev ≡ true
    → nodes_changes texts rev nodes ≡ revision_changes texts nodes
same_changes texts rev nodes open_ =
    let F : Bool → Step =
    λ b. fold (λ (before : Step) (node : NodeRecord). before >> cond b (record_changes texts node) (refused faults.NoRevision)) nothing nodes in
    ap F open_

pub data Ended (texts : Texts) (rev : ℕ) (nodes : List NodeRecord) (h ended : History) : Type 0 where
  first : rev ≡ 0 → nodes ≡ [] → ended ≡ h → Ended texts rev nodes h ended
  later : (changes : List Change) → 0 < rev → revision_changes texts nodes (begun h) ≡ Ok changes → IsCommit h ended changes
      → Ended texts rev nodes h ended

pub ended_by : (texts : Texts) (rev : ℕ) (nodes : List NodeRecord) (h : History) (d read : Draft) (ended : History) → d ≡ begun h
    → IsMade (nodes_changes texts (Some rev) nodes) d read → Ends (Some rev) read ended → Ended texts rev nodes h ended
ended_by texts rev nodes h d read ended start made (stays closed same) =
    let below : rev ≡ 0 = grind (arith, nat_tests) in
    first below (no_nodes texts (Some rev) nodes d made.changes closed made.made)
    (same ∙ ap (λ (x : Draft). x.history) made.after ∙ ap (λ (x : Draft). x.history) start)
ended_by texts rev nodes h d read ended start made (commits is_open' is) =
    let above : 0 < rev = grind (arith, nat_tests) in
    let whole : read ≡ with_changes (begun h) made.changes = made.after ∙ ap (λ (x : Draft). with_changes x made.changes) start in
    let no_fault = subst (λ (x : Draft). changes_fault x.history x.pending made.changes ≡ None) start made.no_fault in
    later made.changes above
    (ap (λ (x : Draft). revision_changes texts nodes x) (sym start)
    ∙ ap (λ (s : Step). s d) (sym (same_changes texts (Some rev) nodes is_open')) ∙ made.made)
    (no_fault, subst (λ (x : Draft). IsRevision x.history ended x.pending) whole is)

-- one revision more, in front
pub loads_more : (texts : Texts) (rev : ℕ) (nodes : List NodeRecord) (h0 h ended h' : History) (revisions : Revisions)
    → (rev ≡ 0 → h ≡ h0) → (0 < rev → FillsGap rev h0 h) → Ended texts rev nodes h ended → Loads texts ended revisions h'
    → Loads texts h0 ((rev, nodes) ∷ revisions) h'
loads_more texts rev nodes h0 h ended h' revisions same gap (first zero_ empty stayed) more =
    subst (λ (r : ℕ). Loads texts h0 ((r, nodes) ∷ revisions) h') (sym zero_)
    (subst (λ (ns : List NodeRecord). Loads texts h0 ((0, ns) ∷ revisions) h') (sym empty)
    (revision_0 (subst (λ (g : History). Loads texts g revisions h') (stayed ∙ same zero_) more)))
loads_more texts rev nodes h0 h ended h' revisions same gap (later changes above made commit) more =
    one_revision h ended changes above (gap above) made commit more

-- ---- parts one after another

filled_at_end : (rev next : Option ℕ) (h h' : History) → next ≡ None → Begins rev next h h' → h' ≡ h
filled_at_end rev next h h' none (at_end is same) = same
filled_at_end rev next h h' none (begins_0 is first_one same) =
    (let no : next ≡ Some 0 = is in absurd (cc))
filled_at_end rev next h h' none (revision number is above small gap) = (let no : None ≡ Some number = sym none ∙ is in absurd (cc))

same_at_0 : (rev next : Option ℕ) (number : ℕ) (h h' : History) → next ≡ Some number → Begins rev next h h' → number ≡ 0 → h' ≡ h
same_at_0 rev next number h h' this (at_end is same) zero_ = (let no : None ≡ Some number = sym is ∙ this in absurd (cc))
same_at_0 rev next number h h' this (begins_0 is first_one same) zero_ = same
same_at_0 rev next number h h' this (revision n is above small gap) zero_ =
    let same : n ≡ number = (let e : Some n ≡ Some number = sym is ∙ this in cc) in absurd (omega arith)

gap_above_0 : (rev next : Option ℕ) (number : ℕ) (h h' : History) → next ≡ Some number → Begins rev next h h' → 0 < number
    → FillsGap number h h'
gap_above_0 rev next number h h' this (at_end is same) above = (let no : None ≡ Some number = sym is ∙ this in absurd (cc))
gap_above_0 rev next number h h' this (begins_0 is first_one same) above =
    let zero_ : 0 ≡ number = (let e : Some 0 ≡ Some number = sym is ∙ this in cc) in absurd (omega arith)
gap_above_0 rev next number h h' this (revision n is above' small gap) above =
    let same : n ≡ number = (let e : Some n ≡ Some number = sym is ∙ this in cc) in
    subst (λ (m : ℕ). FillsGap m h h') same gap

some_is : (o : Option ℕ) → IsSome o → (n : ℕ) × (o ≡ Some n)
some_is None h = absurd (true≢false (sym h))
some_is (Some n) h = (n, refl)

pub record LoadedFrom (limits : Limits) (texts : Texts) (rev : ℕ) (left : Option (List ℕ)) (h h' : History) : Type 0 where
  pub revisions : Revisions
  pub bytes : MatchOption left (Unit {0}) (λ b. RevisionsAt limits texts rev b revisions)
  pub loads : (h0 : History) → (rev ≡ 0 → h ≡ h0) → (0 < rev → FillsGap rev h0 h) → Loads texts h0 revisions h'

part_ended : (limits : Limits) (texts : Texts) (old new : Loading) (rev : ℕ) (h : History) (p : LoadsPart limits texts old new)
    → old.rev ≡ Some rev → old.draft ≡ begun h → Ended texts rev p.nodes h p.ended
part_ended limits texts old new rev h p is start =
    ended_by texts rev p.nodes h old.draft p.read p.ended start
    (subst (λ (r : Option ℕ). IsMade (nodes_changes texts r p.nodes) old.draft p.read) is p.made)
    (subst (λ (r : Option ℕ). Ends r p.read p.ended) is p.ended_is)

last_bytes : (limits : Limits) (texts : Texts) (rev : ℕ) (nodes : List NodeRecord) (left left' : Option (List ℕ)) (next : Option ℕ)
    → next ≡ None → IfKnown left left' (λ bytes rest. NodesAt limits texts bytes nodes next rest)
    → MatchOption left (Unit {0}) (λ b. RevisionsAt limits texts rev b ((rev, nodes) ∷ []))
last_bytes limits texts rev nodes None left' next is known = tt
last_bytes limits texts rev nodes (Some b) None next is known = absurd known
last_bytes limits texts rev nodes (Some b) (Some rest) next is known =
    last_revision nodes rest (subst (λ (n : Option ℕ). NodesAt limits texts b nodes n rest) is known)

more_bytes : (limits : Limits) (texts : Texts) (rev next : ℕ) (nodes : List NodeRecord) (revisions : Revisions)
    (left left' : Option (List ℕ)) (some : Option ℕ) → some ≡ Some next
    → IfKnown left left' (λ bytes rest. NodesAt limits texts bytes nodes some rest)
    → MatchOption left' (Unit {0}) (λ b. RevisionsAt limits texts next b revisions)
    → MatchOption left (Unit {0}) (λ b. RevisionsAt limits texts rev b ((rev, nodes) ∷ revisions))
more_bytes limits texts rev next nodes revisions None left' some is known more = tt
more_bytes limits texts rev next nodes revisions (Some b) None some is known more = absurd known
more_bytes limits texts rev next nodes revisions (Some b) (Some rest) some is known more =
    one_more nodes next rest (subst (λ (n : Option ℕ). NodesAt limits texts b nodes n rest) is known) more

loads_on : (limits : Limits) (texts : Texts) (old new : Loading) → LoadsOn limits texts old new → (rev : ℕ) → old.rev ≡ Some rev
    → (h : History) → old.draft ≡ begun h → LoadedFrom limits texts rev old.left h new.draft.history
loads_on limits texts old new (last_part p none) rev is h start =
    let done : new.draft.history ≡ p.ended =
    ap (λ (x : Draft). x.history) p.draft ∙ filled_at_end old.rev new.rev p.ended p.filled none p.begins in
    record {
      revisions = (rev, p.nodes) ∷ [];
      bytes = last_bytes limits texts rev p.nodes old.left new.left new.rev none p.bytes;
      loads = λ h0 same gap. loads_more texts rev p.nodes h0 h p.ended new.draft.history [] same gap
          (part_ended limits texts old new rev h p is start)
          (subst (λ (x : History). Loads texts p.ended [] x) (sym done) loads_nothing);
    }
loads_on limits texts old new (one_part mid p some rest) rev is h start =
    let next = some_is mid.rev some in
    let tail = loads_on limits texts mid new rest next.0 next.1 p.filled p.draft in
    record {
      revisions = (rev, p.nodes) ∷ tail.revisions;
      bytes = more_bytes limits texts rev next.0 p.nodes tail.revisions old.left mid.left mid.rev next.1 p.bytes tail.bytes;
      loads = λ h0 same gap. loads_more texts rev p.nodes h0 h p.ended new.draft.history tail.revisions same gap
          (part_ended limits texts old mid rev h p is start)
          (tail.loads p.ended (same_at_0 old.rev mid.rev next.0 p.ended p.filled next.1 p.begins)
          (gap_above_0 old.rev mid.rev next.0 p.ended p.filled next.1 p.begins));
    }

-- ---- from the beginning

none_ended : (texts : Texts) (nodes : List NodeRecord) (h ended : History) (d read : Draft) → d ≡ begun h
    → IsMade (nodes_changes texts None nodes) d read → Ends None read ended → (nodes ≡ []) × (ended ≡ h)
none_ended texts nodes h ended d read start made (commits open_ is) = absurd (true≢false (sym open_))
none_ended texts nodes h ended d read start made (stays closed same) = (
  no_nodes texts None nodes d made.changes refl made.made,
  same ∙ ap (λ (x : Draft). x.history) made.after ∙ ap (λ (x : Draft). x.history) start,
)

front_bytes : (limits : Limits) (texts : Texts) (nodes : List NodeRecord) (left left' : Option (List ℕ)) (next : Option ℕ)
    (P : List ℕ → Type 0) → nodes ≡ [] → IfKnown left left' (λ bytes rest. NodesAt limits texts bytes nodes next rest)
    → ((bytes rest : List ℕ) → left' ≡ Some rest → NodesAt limits texts bytes [] next rest → P bytes) → MatchOption left (Unit {0}) P
front_bytes limits texts nodes None left' next P empty known f = tt
front_bytes limits texts nodes (Some b) None next P empty known f = absurd known
front_bytes limits texts nodes (Some b) (Some rest) next P empty known f =
    f b rest refl (subst (λ (ns : List NodeRecord). NodesAt limits texts b ns next rest) empty known)

at_rest : (left : Option (List ℕ)) (rest : List ℕ) (P : List ℕ → Type 0) → left ≡ Some rest → MatchOption left (Unit {0}) P → P rest
at_rest left rest P is h = subst (λ (l : Option (List ℕ)). MatchOption l (Unit {0}) P) is h

pub loads_dump : (limits : Limits) (texts : Texts) (old new : Loading) (h : History) → old.rev ≡ None → old.draft ≡ begun h
    → LoadsAll limits texts old new → LoadsDump limits texts old.left h new.draft.history
loads_dump limits texts old new h none start (no_part p ended) =
    let front = none_ended texts p.nodes h p.ended old.draft p.read start
    (subst (λ (r : Option ℕ). IsMade (nodes_changes texts r p.nodes) old.draft p.read) none p.made)
    (subst (λ (r : Option ℕ). Ends r p.read p.ended) none p.ended_is) in
    let done : h ≡ new.draft.history =
    sym (ap (λ (x : Draft). x.history) p.draft ∙ filled_at_end old.rev new.rev p.ended p.filled ended p.begins ∙ front.1) in
    record {
      revisions = [];
      bytes = front_bytes limits texts p.nodes old.left new.left new.rev (λ b. IsDump limits texts b []) front.0 p.bytes
          (λ b rest is nodes. empty_dump rest (subst (λ (n : Option ℕ). NodesAt limits texts b [] n rest) ended nodes));
      loads = subst (λ (x : History). Loads texts h [] x) done loads_nothing;
    }
loads_dump limits texts old new h none start (some_parts front_one p some rest) =
    let front = none_ended texts p.nodes h p.ended old.draft p.read start
    (subst (λ (r : Option ℕ). IsMade (nodes_changes texts r p.nodes) old.draft p.read) none p.made)
    (subst (λ (r : Option ℕ). Ends r p.read p.ended) none p.ended_is) in
    let next = some_is front_one.rev some in
    let tail = loads_on limits texts front_one new rest next.0 next.1 p.filled p.draft in
    record {
      revisions = tail.revisions;
      bytes = front_bytes limits texts p.nodes old.left front_one.left front_one.rev (λ b. IsDump limits texts b tail.revisions) front.0 p.bytes
          (λ b rest' is nodes. some_revisions next.0 rest'
          (subst (λ (n : Option ℕ). NodesAt limits texts b [] n rest') next.1 nodes)
          (at_rest front_one.left rest' (λ x. RevisionsAt limits texts next.0 x tail.revisions) is tail.bytes));
      loads = tail.loads h
          (λ z. same_at_0 old.rev front_one.rev next.0 p.ended p.filled next.1 p.begins z ∙ front.1)
          (λ above. subst (λ (x : History). FillsGap next.0 x p.filled) front.1
          (gap_above_0 old.rev front_one.rev next.0 p.ended p.filled next.1 p.begins above));
    }

-- ---- one revision after another

rest_from_none : (limits : Limits) (texts : Texts) (now new : Loading) → now.rev ≡ None → LoadsAll limits texts now new
    → LoadsRest limits texts now new
rest_from_none limits texts now new none h =
    subst (λ (r : Option ℕ). MatchOption r (LoadsAll limits texts now new) (λ rev. LoadsOn limits texts now new)) (sym none) h

rest_from_some : (limits : Limits) (texts : Texts) (now new : Loading) → IsSome now.rev → LoadsOn limits texts now new
    → LoadsRest limits texts now new
rest_from_some limits texts now new some h =
    let n = some_is now.rev some in
    subst (λ (r : Option ℕ). MatchOption r (LoadsAll limits texts now new) (λ rev. LoadsOn limits texts now new)) (sym n.1) h

on_from_rest : (limits : Limits) (texts : Texts) (now new : Loading) → IsSome now.rev → LoadsRest limits texts now new
    → LoadsOn limits texts now new
on_from_rest limits texts now new some h =
    let n = some_is now.rev some in
    subst (λ (r : Option ℕ). MatchOption r (LoadsAll limits texts now new) (λ rev. LoadsOn limits texts now new)) n.1 h

pub rest_at_first : (limits : Limits) (texts : Texts) (front_one new : Loading) → front_one.rev ≡ None → LoadsRest limits texts front_one new
    → LoadsAll limits texts front_one new
rest_at_first limits texts front_one new none h =
    subst (λ (r : Option ℕ). MatchOption r (LoadsAll limits texts front_one new) (λ rev. LoadsOn limits texts front_one new)) none h

-- one revision after another was loaded, and the next one has begun
pub data Loaded (limits : Limits) (texts : Texts) (first_one : Loading) : Loading → Type 0 where
  none_loaded : Loaded limits texts first_one first_one
  one_revision_more : {new : Loading} (now : Loading) (done : Option ℕ) → Loaded limits texts first_one now → LoadsOne limits texts now new done
      → IsSome new.rev → Loaded limits texts first_one new

-- what is refused then is refused of them all
pub refused_after : (limits : Limits) (texts : Texts) (at : Option ℕ → List ℕ → Type 0) (first_one now : Loading) (e : LoadFault) (h : History)
    → Loaded limits texts first_one now → RefusesAll limits texts at now e h → RefusesAll limits texts at first_one e h
refused_after limits texts at first_one now e h none_loaded why = why
refused_after limits texts at first_one now e h (one_revision_more mid done so_far one some) why =
    refused_after limits texts at first_one mid e h so_far (after_one now done one some why)

module _ (limits limits' : Limits) (texts texts' : Texts) (first_one now new : Loading) (done : Option ℕ) (same : limits' ≡ limits)
    (same' : texts' ≡ texts) (one : LoadsOne limits' texts' now new done) where
  one_here : LoadsOne limits texts now new done
  one_here = subst (λ (t : Texts). LoadsOne limits t now new done) same' (subst (λ (l : Limits). LoadsOne l texts' now new done) same one)

  module _ (so_far : (x : Loading) → LoadsRest limits texts now x → LoadsRest limits texts first_one x) where
    pub rest_more : IsSome new.rev → (x : Loading) → LoadsRest limits texts new x → LoadsRest limits texts first_one x
    rest_more some x rest = so_far x (by one_here)
      where
        on : LoadsOn limits texts new x
        on = on_from_rest limits texts new x some rest

        by : LoadsOne limits texts now new done → LoadsRest limits texts now x
        by (goes_on was is p) = rest_from_some limits texts now x was (one_part new p some on)
        by (begins one_more_ none p was is q) = rest_from_none limits texts now x none (some_parts one_more_ p was (one_part new q some on))
        by (ends none p ended is) = (let n = some_is new.rev some in let no : None ≡ Some n.0 = sym ended ∙ n.1 in absurd (cc))

    pub rest_done : new.rev ≡ None → LoadsRest limits texts first_one new
    rest_done none' = so_far new (by one_here)
      where
        by : LoadsOne limits texts now new done → LoadsRest limits texts now new
        by (goes_on was is p) = rest_from_some limits texts now new was (last_part p none')
        by (begins one_more_ none p was is q) = rest_from_none limits texts now new none (some_parts one_more_ p was (last_part q none'))
        by (ends none p ended is) = rest_from_none limits texts now new none (no_part p ended)

  pub loaded_more : Loaded limits texts first_one now → IsSome new.rev → Loaded limits texts first_one new
  loaded_more so_far some = one_revision_more now done so_far one_here some

-- ---- what is refused

pub refuses_one_as : (limits limits' : Limits) (texts texts' : Texts) (at : Option ℕ → List ℕ → Type 0) (old : Loading) (e : LoadFault)
    (h : History) → limits' ≡ limits → texts' ≡ texts → RefusesOne limits' texts' at old e h → RefusesOne limits texts at old e h
refuses_one_as limits limits' texts texts' at old e h same same' why =
    subst (λ (t : Texts). RefusesOne limits t at old e h) same' (subst (λ (l : Limits). RefusesOne l texts' at old e h) same why)

-- a reader may fail anywhere
pub read_refused : (limits : Limits) (texts : Texts) (at : Option ℕ → List ℕ → Type 0) (old : Loading)
    → RefusesOne limits texts at old (faults.Dump dump.Read) old.draft.history
read_refused limits texts at old = at_once (bad_nodes (by old.left) refl)
  where
    by : (l : Option (List ℕ))
        → MatchOption l (Unit {0}) (λ bytes. NodesFault limits texts at old.rev old.draft bytes (faults.Dump dump.Read))
    by None = tt
    by (Some bytes) = outside (read_fault refl)
