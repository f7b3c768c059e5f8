use Rattle.std.proofs.Common.{◌≡◌, ℕ, Option, Some, None, refl, subst, sym, ap, ◌∙◌, inl, arith}
use Rattle.std.specs.Prelude.{IsSome, is_some}
use Rattle.std.specs.Option.{option_or}
use Rattle.svn_lists.proofs.Results.{IfErr_returned}
use Rattle.svn_dump.specs.declared.fault.DumpFault.TheVariants as dump
use Rattle.svn_dump.specs.declared.record.Record.{Record}
use Rattle.svn_dump.specs.Readers.{left_in, IsUnreadable, Shows}
use Rattle.svn_history.specs.declared.fault.LoadFault.{LoadFault}
use Rattle.svn_history.specs.declared.fault.LoadFault.TheVariants as faults
use Rattle.svn_history.specs.Results.{of_dump}
use Rattle.svn_history.specs.Steps.{draft_of}
use Rattle.svn_history.specs.Places.{IsShown, IsShownBy}
use Rattle.svn_history.specs.Parts.{loading, RefusesNodes, RefusesRecord, Takes}
use Rattle.svn_history.specs.declared.front.Front.{Front}
use Rattle.svn_history.specs.Fronts.{FrontLoaded, given_uuid, uuid_in}
use Rattle.svn_history.proofs.Causes.{no_record_fault, dump_failed}
use Rattle.svn_history.proofs.Fronts.{front_begins, front_on, other_taken, revision_taken, front_more, front_ends}
use Rattle.svn_history.proofs.Places.{shown_next, shown_refused, shown_same, nodes_refused_at, counts_on}
use Rattle.svn_history.proofs.Parts.{nodes_on, at_start, end_read, fault_read, one_more, revision_read, record_refused}
use Rattle.svn_history.proofs.loader.Loader.load_nodes.Goals as goal

pub records-init : goal.records-init
records-init g c =
    let first = c.args.self.now in
    record {
      nodes = at_start first.records.limits first.records.texts first.rev (left_in g.R.Read.remaining first.records)
          (draft_of first.transaction);
      limits = refl;
      texts = refl;
      rev = refl;
      history = refl;
      front = λ _ _. front_begins first.records.limits first.records.texts (given_uuid first) (left_in g.R.Read.remaining first.records);
      first_is = refl;
      kept = λ _. refl;
      counted = omega arith;
      grows = omega arith;
      counts = λ all of. of;
    }

pub returns-in_err-what-clause-fault : goal.returns-in_err-what-clause-fault
returns-in_err-what-clause-fault g c =
    let first = c.args.self.now in
    let now = c.keep_uuid.new.self in
    let inv = c.records.invariant in
    let same = c.keep_uuid.ensures.records in
    let left = left_in g.R.Read.remaining in
    let limits = ap (λ r. r.limits) same ∙ inv.limits in
    let texts = ap (λ r. r.texts) same ∙ inv.texts in
    let nodes =
    nodes_on g.R.Read.remaining first.records.limits first.records.texts first.rev (left first.records) (draft_of first.transaction)
    c.records.self.records now.records c.records.self.transaction now.transaction same c.keep_uuid.ensures.transaction inv.nodes in
    let shown = IsShownBy g.R.Read.remaining first.records c.next_record.new.self now.rev in
    let Q : LoadFault → Type 0 = RefusesNodes first.records.limits first.records.texts shown (loading g.R.Read.remaining first) in
    let why : Q (of_dump c.in_err-what.field-0.0) =
    fault_read first.records.limits now.records.limits first.records.texts now.records.texts first.records.texts first.rev first.rev
    (left first.records) (left now.records) (left c.next_record.new.self) (draft_of first.transaction) (draft_of now.transaction)
    nodes limits texts refl refl shown c.in_err-what.field-0.0 c.in_err-what.ensures.bytes
    (shown_refused g.R.Read.remaining first.records now.records c.next_record.new.self now.rev first.rev
    (counts_on g.R.Read.remaining first.records c.records.self.records now.records same inv.counts) (c.keep_uuid.ensures.rev ∙ inv.rev)
    limits c.in_err-what.field-0.0 c.in_err-what.ensures.shown) in
    IfErr_returned (λ e. e ≡ of_dump c.in_err-what.field-0.0) Q c.from_residual-in_err-what.result c.from_residual-in_err-what.ensures
    (λ e is. subst Q (sym is) why)

pub returns-in_err-rev-clause-fault : goal.returns-in_err-rev-clause-fault
returns-in_err-rev-clause-fault g c =
    let first = c.args.self.now in
    let now = c.keep_uuid.new.self in
    let inv = c.records.invariant in
    let same = c.keep_uuid.ensures.records in
    let left = left_in g.R.Read.remaining in
    let limits = ap (λ r. r.limits) same ∙ inv.limits in
    let texts = ap (λ r. r.texts) same ∙ inv.texts in
    let nodes =
    nodes_on g.R.Read.remaining first.records.limits first.records.texts first.rev (left first.records) (draft_of first.transaction)
    c.records.self.records now.records c.records.self.transaction now.transaction same c.keep_uuid.ensures.transaction inv.nodes in
    let read = c.next_record.new.self in
    let taken = c.take.new.self in
    let seen = IsShownBy g.R.Read.remaining first.records read now.rev in
    let shown = IsShown g.R.Read.remaining first taken in
    let Q : LoadFault → Type 0 = RefusesNodes first.records.limits first.records.texts shown (loading g.R.Read.remaining first) in
    let why : Q c.in_err-rev.field-0.0 =
    nodes_refused_at first.records.limits first.records.texts seen shown
    (shown_same g.R.Read.remaining first.records read taken.records now.rev taken.rev c.take.ensures.records c.take.ensures.rev)
    (loading g.R.Read.remaining first) c.in_err-rev.field-0.0
    (
    record_refused first.records.limits now.records.limits first.records.texts now.records.texts c.next_record.new.self.texts first.rev
    now.rev (left first.records) (left now.records) (left c.next_record.new.self) (draft_of first.transaction)
    (draft_of now.transaction) nodes limits texts (c.next_record.ensures.texts ∙ texts) (c.keep_uuid.ensures.rev ∙ inv.rev)
    (left c.next_record.new.self) (draft_of now.transaction) c.in_ok-what.field-0 c.in-Some.what c.in-Some.is refl
    c.in_ok-what.ensures.bytes seen c.in_err-rev.field-0.0 c.in_err-rev.ensures.fault
    (shown_next g.R.Read.remaining first.records now.records c.next_record.new.self now.rev first.rev
    (counts_on g.R.Read.remaining first.records c.records.self.records now.records same inv.counts) (c.keep_uuid.ensures.rev ∙ inv.rev)
    limits c.in_ok-what.ensures.shown)) in
    IfErr_returned (λ e. e ≡ c.in_err-rev.field-0.0) Q c.from_residual-in_err-rev.result c.from_residual-in_err-rev.ensures
    (λ e is. subst Q (sym is) why)

pub returns-in-Some-2-clause-nodes : goal.returns-in-Some-2-clause-nodes
returns-in-Some-2-clause-nodes g c =
    let first = c.args.self.now in
    let now = c.keep_uuid.new.self in
    let inv = c.records.invariant in
    let same = c.keep_uuid.ensures.records in
    let left = left_in g.R.Read.remaining in
    let limits = ap (λ r. r.limits) same ∙ inv.limits in
    let texts = ap (λ r. r.texts) same ∙ inv.texts in
    let nodes =
    nodes_on g.R.Read.remaining first.records.limits first.records.texts first.rev (left first.records) (draft_of first.transaction)
    c.records.self.records now.records c.records.self.transaction now.transaction same c.keep_uuid.ensures.transaction inv.nodes in
    let new = c.take.new.self in
    revision_read first.records.limits now.records.limits first.records.texts now.records.texts c.next_record.new.self.texts first.rev
    now.rev (left first.records) (left now.records) (left c.next_record.new.self) (draft_of first.transaction)
    (draft_of now.transaction) nodes limits texts (c.next_record.ensures.texts ∙ texts) (c.keep_uuid.ensures.rev ∙ inv.rev) (left new.records)
    (draft_of new.transaction) c.in_ok-what.field-0 c.in-Some.what c.in-Some.is (ap left c.take.ensures.records)
    c.in_ok-what.ensures.bytes (IsShown g.R.Read.remaining first new) new.rev c.in-Some-2.rev
    (subst (λ (n : Option ℕ). Takes c.next_record.new.self.texts now.rev c.in-Some.what (draft_of now.transaction)
    (draft_of new.transaction) n) c.in-Some-2.is c.in_ok-rev.ensures.takes)
    (shown_next g.R.Read.remaining first.records now.records new.records new.rev first.rev
    (counts_on g.R.Read.remaining first.records c.records.self.records now.records same inv.counts)
    (c.take.ensures.rev ∙ (c.keep_uuid.ensures.rev ∙ inv.rev)) limits
    (subst (λ r. Shows now.records.limits now.records.source.taken (left now.records) r.begun r.block.items) (sym c.take.ensures.records)
    c.in_ok-what.ensures.shown))

pub returns-in_default-clause-nodes : goal.returns-in_default-clause-nodes
returns-in_default-clause-nodes g c =
    let first = c.args.self.now in
    let now = c.keep_uuid.new.self in
    let inv = c.records.invariant in
    let same = c.keep_uuid.ensures.records in
    let left = left_in g.R.Read.remaining in
    let limits = ap (λ r. r.limits) same ∙ inv.limits in
    let texts = ap (λ r. r.texts) same ∙ inv.texts in
    let nodes =
    nodes_on g.R.Read.remaining first.records.limits first.records.texts first.rev (left first.records) (draft_of first.transaction)
    c.records.self.records now.records c.records.self.transaction now.transaction same c.keep_uuid.ensures.transaction inv.nodes in
    end_read first.records.limits now.records.limits first.records.texts now.records.texts first.records.texts first.rev now.rev
    (left first.records) (left now.records) (left c.next_record.new.self) (draft_of first.transaction) (draft_of now.transaction)
    nodes limits texts refl (c.keep_uuid.ensures.rev ∙ inv.rev) (IsShownBy g.R.Read.remaining first.records c.next_record.new.self now.rev)
    c.in_ok-what.field-0 c.in_default.is c.in_ok-what.ensures.bytes
    (shown_next g.R.Read.remaining first.records now.records c.next_record.new.self now.rev first.rev
    (counts_on g.R.Read.remaining first.records c.records.self.records now.records same inv.counts) (c.keep_uuid.ensures.rev ∙ inv.rev)
    limits c.in_ok-what.ensures.shown)

pub returns-in_default-clause-front : goal.returns-in_default-clause-front
returns-in_default-clause-front g c = λ none unknown.
    let first = c.args.self.now in
    let before = c.records.self in
    let now = c.keep_uuid.new.self in
    let inv = c.records.invariant in
    let same = c.keep_uuid.ensures.records in
    let left = left_in g.R.Read.remaining in
    let so_far =
    front_on g.R.Read.remaining first.records.limits first.records.texts (given_uuid first) (left first.records) (given_uuid before)
    now.front.uuid before.records now.records (c.in_ok-keep_uuid.ensures.uuid (inv.first_is ∙ unknown)) same (inv.front none unknown) in
    front_ends first.records.limits now.records.limits first.records.texts now.records.texts (given_uuid first) (left first.records)
    now.front.uuid (left now.records) (left c.next_record.new.self) so_far (ap (λ r. r.limits) same ∙ inv.limits)
    (ap (λ r. r.texts) same ∙ inv.texts) c.in_ok-what.field-0 c.in_ok-what.ensures.bytes None c.in_default.is

pub returns-in-Some-2-clause-front : goal.returns-in-Some-2-clause-front
returns-in-Some-2-clause-front g c = λ none unknown.
    let first = c.args.self.now in
    let before = c.records.self in
    let now = c.keep_uuid.new.self in
    let inv = c.records.invariant in
    let same = c.keep_uuid.ensures.records in
    let left = left_in g.R.Read.remaining in
    let so_far =
    front_on g.R.Read.remaining first.records.limits first.records.texts (given_uuid first) (left first.records) (given_uuid before)
    now.front.uuid before.records now.records (c.in_ok-keep_uuid.ensures.uuid (inv.first_is ∙ unknown)) same (inv.front none unknown) in
    let new = c.take.new.self in
    let is = revision_taken c.next_record.new.self.texts now.rev c.in-Some.what (draft_of now.transaction) (draft_of new.transaction)
    c.in-Some-2.rev (subst (λ (n : Option ℕ). Takes c.next_record.new.self.texts now.rev c.in-Some.what (draft_of now.transaction)
    (draft_of new.transaction) n) c.in-Some-2.is c.in_ok-rev.ensures.takes) in
    subst (λ (f : Front). FrontLoaded g.R.Read.remaining first f.uuid (Some c.in-Some-2.rev)) (sym c.take.ensures.front)
    (front_ends first.records.limits now.records.limits first.records.texts now.records.texts (given_uuid first) (left first.records)
    now.front.uuid (left now.records) (left c.next_record.new.self) so_far (ap (λ r. r.limits) same ∙ inv.limits)
    (ap (λ r. r.texts) same ∙ inv.texts) c.in_ok-what.field-0 c.in_ok-what.ensures.bytes
    (Some c.in-Some-2.rev) (c.in-Some.is ∙ ap (λ (w : Record). Some w) is))

pub returns-in_err-what-clause-read : goal.returns-in_err-what-clause-read
returns-in_err-what-clause-read g c =
    let read = c.next_record.new.self in
    let fault = c.in_err-what.field-0.0 in
    IfErr_returned (λ e. e ≡ of_dump fault) (λ e. e ≡ faults.Dump dump.Read → IsUnreadable read) c.from_residual-in_err-what.result c.from_residual-in_err-what.ensures
    (λ e is same. inl (dump_failed fault c.keep_uuid.new.self.records.source.failed read.source.failed c.in_err-what.ensures.failed (sym is ∙ same)))

pub returns-in_err-rev-clause-read : goal.returns-in_err-rev-clause-read
returns-in_err-rev-clause-read g c =
    let now = c.keep_uuid.new.self in
    let texts = c.next_record.new.self.texts in
    let d = draft_of now.transaction in
    IfErr_returned (λ e. e ≡ c.in_err-rev.field-0.0) (λ e. e ≡ faults.Dump dump.Read → IsUnreadable c.take.new.self.records)
    c.from_residual-in_err-rev.result c.from_residual-in_err-rev.ensures
    (λ e is same. absurd (no_record_fault texts now.rev c.in-Some.what d
    (subst (λ (x : LoadFault). RefusesRecord texts now.rev c.in-Some.what d x) (sym is ∙ same) c.in_err-rev.ensures.fault)))

pub returns-in-Some-2-clause-grown : goal.returns-in-Some-2-clause-grown
returns-in-Some-2-clause-grown g c = λ _.
    let new = c.take.new.self in
    let some : IsSome c.in_ok-what.field-0 = ap is_some c.in-Some.is in
    let grown = c.in_ok-what.ensures.grown some in
    let taken : new.records.source.taken ≡ c.next_record.new.self.source.taken = ap (λ r. r.source.taken) c.take.ensures.records in
    let before : c.keep_uuid.new.self.records.source.taken ≡ c.records.self.records.source.taken =
    ap (λ r. r.source.taken) c.keep_uuid.ensures.records in
    (omega (arith, grown.0, taken, before, c.records.invariant.grows), omega (arith, grown.1, taken, before, c.records.invariant.grows))

pub records-preserved : goal.records-preserved
records-preserved g c =
    let first = c.args.self.now in
    let now = c.keep_uuid.new.self in
    let inv = c.records.invariant in
    let same = c.keep_uuid.ensures.records in
    let left = left_in g.R.Read.remaining in
    let limits = ap (λ r. r.limits) same ∙ inv.limits in
    let texts = ap (λ r. r.texts) same ∙ inv.texts in
    let nodes =
    nodes_on g.R.Read.remaining first.records.limits first.records.texts first.rev (left first.records) (draft_of first.transaction)
    c.records.self.records now.records c.records.self.transaction now.transaction same c.keep_uuid.ensures.transaction inv.nodes in
    let new = c.take.new.self in
    let some : IsSome c.in_ok-what.field-0 = ap is_some c.in-Some.is in
    let grown = c.in_ok-what.ensures.grown some in
    let taken : new.records.source.taken ≡ c.next_record.new.self.source.taken = ap (λ r. r.source.taken) c.take.ensures.records in
    let before : now.records.source.taken ≡ c.records.self.records.source.taken = ap (λ r. r.source.taken) same in
    let takes = subst (λ (n : Option ℕ). Takes c.next_record.new.self.texts now.rev c.in-Some.what (draft_of now.transaction)
    (draft_of new.transaction) n) c.in_default-2.is c.in_ok-rev.ensures.takes in
    record {
      nodes = one_more first.records.limits now.records.limits first.records.texts now.records.texts c.next_record.new.self.texts
          first.rev now.rev (left first.records) (left now.records) (left c.next_record.new.self) (draft_of first.transaction)
          (draft_of now.transaction) nodes limits texts (c.next_record.ensures.texts ∙ texts) (c.keep_uuid.ensures.rev ∙ inv.rev) (left new.records)
          (draft_of new.transaction) c.in_ok-what.field-0 c.in-Some.what c.in-Some.is (ap left c.take.ensures.records)
          c.in_ok-what.ensures.bytes takes;
      limits = cc;
      texts = cc;
      rev = c.take.ensures.rev ∙ (c.keep_uuid.ensures.rev ∙ inv.rev);
      history = c.take.ensures.history ∙ (ap (λ t. t.history) c.keep_uuid.ensures.transaction ∙ inv.history);
      front = λ none unknown.
          let so_far =
          front_on g.R.Read.remaining first.records.limits first.records.texts (given_uuid first) (left first.records)
          (given_uuid c.records.self) now.front.uuid c.records.self.records now.records
          (c.in_ok-keep_uuid.ensures.uuid (inv.first_is ∙ unknown)) same (inv.front none unknown) in
          let other = other_taken c.next_record.new.self.texts now.rev c.in-Some.what (draft_of now.transaction) (draft_of new.transaction)
          (c.keep_uuid.ensures.rev ∙ (inv.rev ∙ none)) takes in
          front_on g.R.Read.remaining first.records.limits first.records.texts (given_uuid first) (left first.records)
          (option_or (uuid_in c.next_record.new.self.block.items) now.front.uuid) (given_uuid new) c.next_record.new.self new.records
          (ap (λ r. option_or (uuid_in r.block.items) new.front.uuid) c.take.ensures.records
          ∙ ap (λ f. option_or (uuid_in c.next_record.new.self.block.items) f.uuid) c.take.ensures.front) c.take.ensures.records
          (front_more first.records.limits now.records.limits first.records.texts now.records.texts (given_uuid first) (left first.records)
          now.front.uuid (left now.records) (left c.next_record.new.self) so_far limits texts c.in_ok-what.field-0
          c.in_ok-what.ensures.bytes now.records.source.taken c.next_record.new.self.begun c.next_record.new.self.block.items
          (c.in-Some.is ∙ ap (λ (w : Record). Some w) other) c.in_ok-what.ensures.shown);
      first_is = ap (λ f. f.first) c.take.ensures.front ∙ (c.keep_uuid.ensures.first ∙ inv.first_is);
      kept = λ known. c.take.ensures.front ∙ (c.keep_uuid.ensures.kept (subst IsSome (sym inv.first_is) known) ∙ inv.kept known);
      counted = omega (arith, grown.1, taken, before, inv.counted);
      grows = omega (arith, grown.0, taken, before, inv.grows);
      counts = counts_on g.R.Read.remaining first.records c.next_record.new.self new.records c.take.ensures.records
          (λ all of. c.next_record.ensures.counted all
          (counts_on g.R.Read.remaining first.records c.records.self.records now.records same inv.counts all of));
    }

pub returns-in_default-clause-counted : goal.returns-in_default-clause-counted
returns-in_default-clause-counted g c = λ all of.
    c.next_record.ensures.counted all
    (counts_on g.R.Read.remaining c.args.self.now.records c.records.self.records c.keep_uuid.new.self.records c.keep_uuid.ensures.records
    c.records.invariant.counts all of)

pub returns-in-Some-2-clause-counted : goal.returns-in-Some-2-clause-counted
returns-in-Some-2-clause-counted g c =
    let first = c.args.self.now in
    counts_on g.R.Read.remaining first.records c.next_record.new.self c.take.new.self.records c.take.ensures.records
    (λ all of. c.next_record.ensures.counted all
    (counts_on g.R.Read.remaining first.records c.records.self.records c.keep_uuid.new.self.records c.keep_uuid.ensures.records
    c.records.invariant.counts all of))
