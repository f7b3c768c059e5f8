use Rattle.std.proofs.Common.{◌≡◌, None, refl, subst, sym, ◌∙◌, inl, inr, rules, arith}
use Rattle.std.specs.Prelude.{IsSome}
use Rattle.svn_lists.proofs.Results.{IfErr_returned}
use Rattle.svn_dump.specs.declared.fault.DumpFault.TheVariants as dump
use Rattle.svn_dump.specs.Readers.{IsUnreadable}
use Rattle.svn_history.specs.declared.fault.LoadFault.{LoadFault}
use Rattle.svn_history.specs.declared.fault.LoadFault.TheVariants as faults
use Rattle.svn_history.specs.Hearing.{nothing_yet}
use Rattle.svn_history.specs.Places.{IsShown, anywhere}
use Rattle.svn_history.specs.Parts.{loading, LoadsAll, RefusesOne, RefusesAll, at_first}
use Rattle.svn_history.proofs.Fronts.{kept_more, loads_front}
use Rattle.svn_history.proofs.Hearing.{heard_before, heard_more}
use Rattle.svn_history.proofs.Places.{shown_before, one_refused_at}
use Rattle.svn_history.proofs.Whole.{none_loaded, rest_at_first, rest_more, rest_done, loaded_more, refused_after, refuses_one_as, read_refused, loads_dump}
use Rattle.svn_history.proofs.loader.Loader.load_all_with.Goals as goal

pub revisions-init : goal.revisions-init
revisions-init g c =
    record {
      rest = λ new rest. rest;
      so_far = none_loaded;
      counts = λ all of. of;
      heard = nothing_yet;
      limits = refl;
      texts = refl;
      loaded = search rules;
      kept = λ _. refl;
      front = inl refl;
      counted = omega arith;
    }

pub returns-in_err-next_revision-clause-fault : goal.returns-in_err-next_revision-clause-fault
returns-in_err-next_revision-clause-fault g c =
    let first = c.args.self.now in
    let now = c.revisions.self in
    let inv = c.revisions.invariant in
    let view = loading g.R.Read.remaining in
    let h = c.next_revision.new.self.transaction.history in
    let e = c.in_err-next_revision.field-0.0 in
    let new = c.next_revision.new.self in
    let seen = IsShown g.R.Read.remaining now new in
    let shown = IsShown g.R.Read.remaining first new in
    let Q : LoadFault → Type 0 =
    λ e. first.refused ≡ None → RefusesAll first.records.limits first.records.texts shown (view first) e h in
    let why : RefusesOne first.records.limits first.records.texts shown (view now) e h =
    one_refused_at first.records.limits first.records.texts seen shown
    (shown_before g.R.Read.remaining first.records now.records new.records new.rev inv.counts inv.limits) (view now) e h
    (refuses_one_as first.records.limits now.records.limits first.records.texts now.records.texts seen (view now) e h inv.limits inv.texts
    (c.in_err-next_revision.ensures.fault inv.loaded)) in
    IfErr_returned (λ x. x ≡ e) Q c.from_residual.result c.from_residual.ensures
    (λ x is. subst Q (sym is) (λ _. refused_after first.records.limits first.records.texts shown (view first) (view now) e h inv.so_far (at_first why)))

pub returns-in_err-next_revision-clause-heard : goal.returns-in_err-next_revision-clause-heard
returns-in_err-next_revision-clause-heard g c = λ _.
    let first = c.args.self.now in
    let now = c.revisions.self in
    let inv = c.revisions.invariant in
    let view = loading g.R.Read.remaining in
    let new = c.next_revision.new.self in
    let e = c.in_err-next_revision.field-0.0 in
    heard_before first.records.limits first.records.texts g.L.LoadListener.hears (view first) c.args.listener.now (view now) (view new)
    c.revisions.listener e c.from_residual.result c.from_residual.ensures inv.heard
    (one_refused_at first.records.limits first.records.texts (IsShown g.R.Read.remaining now new) anywhere (λ rev bytes shown. tt) (view now) e
    new.transaction.history
    (refuses_one_as first.records.limits now.records.limits first.records.texts now.records.texts (IsShown g.R.Read.remaining now new) (view now) e
    new.transaction.history inv.limits inv.texts (c.in_err-next_revision.ensures.fault inv.loaded)))

pub returns-clause-fault : goal.returns-clause-fault
returns-clause-fault g c = λ _.
    let first = c.args.self.now in
    let now = c.revisions.self in
    let inv = c.revisions.invariant in
    let view = loading g.R.Read.remaining in
    let shown = IsShown g.R.Read.remaining first now in
    refused_after first.records.limits first.records.texts shown (view first) (view now) (faults.Dump dump.Read) now.transaction.history inv.so_far
    (at_first (read_refused first.records.limits first.records.texts shown (view now)))

pub returns-clause-heard : goal.returns-clause-heard
returns-clause-heard g c = λ _.
    let first = c.args.self.now in
    let now = c.revisions.self in
    let inv = c.revisions.invariant in
    let view = loading g.R.Read.remaining in
    (view now, inv.heard, read_refused first.records.limits first.records.texts anywhere (view now))

pub returns-then-is_none-clause-rest : goal.returns-then-is_none-clause-rest
returns-then-is_none-clause-rest g c =
    let first = c.args.self.now in
    let now = c.revisions.self in
    let new = c.next_revision.new.self in
    let inv = c.revisions.invariant in
    let view = loading g.R.Read.remaining in
    let ended : new.rev ≡ None = search rules in
    rest_done first.records.limits now.records.limits first.records.texts now.records.texts (view first) (view now) (view new)
    c.in_ok-next_revision.field-0 inv.limits inv.texts c.in_ok-next_revision.ensures.one inv.rest ended

pub returns-then-is_none-clause-heard : goal.returns-then-is_none-clause-heard
returns-then-is_none-clause-heard g c = λ _.
    let first = c.args.self.now in
    let now = c.revisions.self in
    let new = c.next_revision.new.self in
    let inv = c.revisions.invariant in
    let view = loading g.R.Read.remaining in
    heard_more first.records.limits first.records.texts g.L.LoadListener.hears (view first) c.args.listener.now now.records.limits
    now.records.texts (view now) (view new) c.revisions.listener c.loaded.new.self c.in_ok-next_revision.field-0 c.latest.result
    c.begun.result inv.limits inv.texts inv.heard c.in_ok-next_revision.ensures.one c.latest.ensures c.loaded.ensures

pub returns-then-is_none-clause-dump : goal.returns-then-is_none-clause-dump
returns-then-is_none-clause-dump g c = λ none start.
    let first = c.args.self.now in
    let now = c.revisions.self in
    let new = c.next_revision.new.self in
    let inv = c.revisions.invariant in
    let view = loading g.R.Read.remaining in
    let ended : new.rev ≡ None = search rules in
    let all : LoadsAll first.records.limits first.records.texts (view first) (view new) =
    rest_at_first first.records.limits first.records.texts (view first) (view new) none
    (rest_done first.records.limits now.records.limits first.records.texts now.records.texts (view first) (view now) (view new)
    c.in_ok-next_revision.field-0 inv.limits inv.texts c.in_ok-next_revision.ensures.one inv.rest ended) in
    loads_dump first.records.limits first.records.texts (view first) (view new) first.transaction.history none start all

pub returns-then-is_none-clause-front : goal.returns-then-is_none-clause-front
returns-then-is_none-clause-front g c =
    loads_front g.R.Read.remaining c.args.self.now c.revisions.self c.next_revision.new.self.front c.revisions.invariant.front
    c.in_ok-next_revision.ensures.front c.next_revision.ensures.kept

pub returns-then-is_none-clause-kept : goal.returns-then-is_none-clause-kept
returns-then-is_none-clause-kept g c =
    kept_more c.args.self.now.front c.revisions.self.front c.next_revision.new.self.front c.revisions.invariant.kept
    c.next_revision.ensures.kept

pub returns-in_err-next_revision-clause-kept : goal.returns-in_err-next_revision-clause-kept
returns-in_err-next_revision-clause-kept g c =
    kept_more c.args.self.now.front c.revisions.self.front c.next_revision.new.self.front c.revisions.invariant.kept
    c.next_revision.ensures.kept

pub returns-clause-kept : goal.returns-clause-kept
returns-clause-kept g c = c.revisions.invariant.kept

pub revisions-preserved : goal.revisions-preserved
revisions-preserved g c =
    let first = c.args.self.now in
    let now = c.revisions.self in
    let new = c.next_revision.new.self in
    let inv = c.revisions.invariant in
    let view = loading g.R.Read.remaining in
    let some : IsSome new.rev = search rules in
    let grown = c.in_ok-next_revision.ensures.grown some in
    record {
      rest = rest_more first.records.limits now.records.limits first.records.texts now.records.texts (view first) (view now) (view new)
          c.in_ok-next_revision.field-0 inv.limits inv.texts c.in_ok-next_revision.ensures.one inv.rest some;
      so_far = loaded_more first.records.limits now.records.limits first.records.texts now.records.texts (view first) (view now) (view new)
          c.in_ok-next_revision.field-0 inv.limits inv.texts c.in_ok-next_revision.ensures.one inv.so_far some;
      counts = λ all of. c.in_ok-next_revision.ensures.counted all (inv.counts all of);
      heard = heard_more first.records.limits first.records.texts g.L.LoadListener.hears (view first) c.args.listener.now now.records.limits
          now.records.texts (view now) (view new) c.revisions.listener c.loaded.new.self c.in_ok-next_revision.field-0 c.latest.result
          c.begun.result inv.limits inv.texts inv.heard c.in_ok-next_revision.ensures.one c.latest.ensures c.loaded.ensures;
      limits = c.next_revision.ensures.limits ∙ inv.limits;
      texts = c.next_revision.ensures.texts ∙ inv.texts;
      loaded = search rules;
      kept = kept_more first.front now.front new.front inv.kept c.next_revision.ensures.kept;
      front = inr (
        c.in_ok-next_revision.ensures.known some,
        loads_front g.R.Read.remaining first now new.front inv.front
            c.in_ok-next_revision.ensures.front c.next_revision.ensures.kept,
      );
      counted = omega (arith, grown.1, inv.counted);
    }

pub returns-in_err-next_revision-clause-read : goal.returns-in_err-next_revision-clause-read
returns-in_err-next_revision-clause-read g c =
    let records = c.next_revision.new.self.records in
    let e = c.in_err-next_revision.field-0.0 in
    IfErr_returned (λ x. x ≡ e) (λ x. c.args.self.now.refused ≡ None → x ≡ faults.Dump dump.Read → IsUnreadable records) c.from_residual.result
    c.from_residual.ensures
    (λ x is none read. c.in_err-next_revision.ensures.read c.revisions.invariant.loaded (sym is ∙ read))
