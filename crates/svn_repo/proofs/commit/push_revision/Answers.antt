use Rattle.std.proofs.Common.{◌≡◌, ◌<◌, length, arith, subst, sym, inl}
use Rattle.std.proofs.lemmas.Option.{slice_get_within}
use Rattle.svn_lists.proofs.Results.{IfErr_returned}
use Rattle.svn_repo.specs.declared.change.CommitFault.TheVariants.{Memory}
use Rattle.svn_repo.specs.Stored.{history_of}
use Rattle.svn_repo.specs.Heights.{IsOrdered}
use Rattle.svn_repo.specs.Changes.{AreRefused, IsRefused, Pending, latest_pending, pending_in}
use Rattle.svn_repo.proofs.Runs.{first_of}
use Rattle.svn_repo.proofs.Tallest.{draft_ordered, heights_kept}
use Rattle.svn_repo.proofs.Commits.{start_draft, start_past, start_pending, still_sound, no_fault, is_revision}
use Rattle.svn_repo.proofs.commit.push_revision.Goals as goal

pub make_all-requires-clause-draft : goal.make_all-requires-clause-draft
make_all-requires-clause-draft c = start_draft _ _ _ _ c.requires.repository c.start_draft-start.ensures.root

pub make_all-requires-clause-past : goal.make_all-requires-clause-past
make_all-requires-clause-past c =
    rw c.deref.ensures.value
    (start_past _ _ c.args.lines _ c.requires.repository c.start_draft-start.ensures.root _ c.requires.known)

pub returns-in_err-made-clause-fault : goal.returns-in_err-made-clause-fault
returns-in_err-made-clause-fault c =
    let roots = c.args.stored.now.roots in
    let old = c.args.stored.now.nodes.items in
    let from = c.start_draft-start.result.root in
    let h = history_of roots old c.args.lines in
    let told : AreRefused h (pending_in (length old) old from c.args.lines) c.args.changes.now c.in_err-made.field-0.0 =
    rw c.start_draft-start.ensures.lines at c.in_err-made.ensures.err in
    let refused : IsRefused h c.args.changes.now c.in_err-made.field-0.0 =
    subst (λ (s : Pending). AreRefused h s c.args.changes.now c.in_err-made.field-0.0)
    (sym (start_pending roots old c.args.lines from c.requires.repository c.start_draft-start.ensures.root)) told in
    IfErr_returned (λ e. e ≡ c.in_err-made.field-0.0) (IsRefused h c.args.changes.now) c.from_residual.result c.from_residual.ensures
    (λ e is. subst (IsRefused h c.args.changes.now) (sym is) refused)

pub push_root-requires-clause-ordered : goal.push_root-requires-clause-ordered
push_root-requires-clause-ordered c =
    let ordered : IsOrdered c.make_all.new.nodes.items (length c.args.stored.now.nodes.items) =
    draft_ordered (length c.args.stored.now.nodes.items) c.make_all.new.nodes.items c.in_ok-made.made.root c.in_ok-made.ensures.ok.draft in
    rw c.requires.known.size ordered

pub push_root-requires-clause-known : goal.push_root-requires-clause-known
push_root-requires-clause-known c = λ n k e.
    let known = c.requires.known in
    let below : n < length c.args.stored.now.heights.items = slice_get_within c.args.stored.now.heights.items n k e in
    heights_kept c.args.stored.now.nodes.items c.make_all.new.nodes.items c.args.stored.now.heights.items
    c.in_ok-made.made.root known c.in_ok-made.ensures.ok.draft c.make_all.ensures.kept n k e (omega (arith, known.size))

pub returns-clause-ok : goal.returns-clause-ok
returns-clause-ok c =
    let sound = c.requires.repository in
    let last = c.start_draft-start.ensures.root in
    let kept = c.make_all.ensures.kept in
    let made = rw c.start_draft-start.ensures.lines at c.in_ok-made.ensures.ok in
    rw (c.in_ok-push_root.ensures.roots, c.push_root.ensures.nodes_kept) (
      record { repository = still_sound _ _ _ _ _ _ _ _ sound last made kept; known = c.in_ok-push_root.ensures.heights },
      (
        no_fault _ _ _ _ _ _ _ _ sound last made kept,
        is_revision _ _ _ _ _ _ _ _ sound last made kept,
      ),
    )

pub returns-in_err-push_root-clause-fault : goal.returns-in_err-push_root-clause-fault
returns-in_err-push_root-clause-fault c =
    let made = rw c.start_draft-start.ensures.lines at c.in_ok-made.ensures.ok in
    let h = history_of c.args.stored.now.roots c.args.stored.now.nodes.items c.args.lines in
    let can = first_of h (latest_pending h) c.args.changes.now (no_fault _ _ _ _ _ _ _ _ c.requires.repository c.start_draft-start.ensures.root
    made c.make_all.ensures.kept) in
    IfErr_returned (λ e. e ≡ Memory) (IsRefused h c.args.changes.now) c.from_residual-in_err-push_root.result
    c.from_residual-in_err-push_root.ensures (λ e is. inl (is, can))
