use Rattle.std.proofs.Common.{◌≡◌, ℕ, Some, subst, ap, sym, ◌∙◌, arith, ◌<◌, ◌≤◌, length, ◌+◌}
use Rattle.std.specs.Option.{is_some}
use Rattle.svn_types.specs.Names.{Path}
use Rattle.svn_repo.specs.Trees.{Tree, leaf, graft, nothing, with_prop}
use Rattle.svn_repo.specs.Drafts.{tree_in, past_in, old_part, IsGrafted}
use Rattle.svn_repo.specs.Changes.{Pending, after_change, pending_in, new_directory, with_text, lines_after}
use Rattle.svn_repo.proofs.Pendings.{can_make, made_by_graft, made_by_prop, next_is, next_below}
use Rattle.svn_repo.proofs.OldRevisions.{source_found, looked_in, copied_part}
use Rattle.svn_repo.proofs.commit.make.Goals as goal

pub put_directory-requires-clause-not_root : goal.put_directory-requires-clause-not_root
put_directory-requires-clause-not_root c =
    let can = can_make c.args.draft c.args.roots.now c.args.nodes.now.items c.requires.no_fault c.in-MakeDir.is in
    rw c.components.ensures.names can.0

pub put_directory-requires-clause-above : goal.put_directory-requires-clause-above
put_directory-requires-clause-above c =
    let can = can_make c.args.draft c.args.roots.now c.args.nodes.now.items c.requires.no_fault c.in-MakeDir.is in
    rw c.components.ensures.names can.1

pub returns-in_ok-root-in-MakeDir-clause-ok : goal.returns-in_ok-root-in-MakeDir-clause-ok
returns-in_ok-root-in-MakeDir-clause-ok c =
    let s = pending_in c.args.draft.base c.args.nodes.now.items c.args.draft.root c.args.draft.lines in
    let can = can_make c.args.draft c.args.roots.now c.args.nodes.now.items c.requires.no_fault c.in-MakeDir.is in
    let g = subst (λ (p : Path). IsGrafted c.args.draft.base c.args.nodes.now.items c.put_directory.new.nodes.items c.args.draft.root
    c.in_ok-root-in-MakeDir.root p (leaf (new_directory c.args.draft.lines))) c.components.ensures.names
    c.in_ok-root-in-MakeDir.ensures.ok in
    made_by_graft c.args.draft.base c.args.nodes.now.items c.put_directory.new.nodes.items c.args.draft.root c.in_ok-root-in-MakeDir.root
    c.args.draft.lines (c.args.draft.lines + 1) c.in-MakeDir.path
    (leaf (new_directory c.args.draft.lines)) c.args.change.now c.args.roots.now
    g can.0 (omega (arith, c.requires.bounded, c.in_ok-root-in-MakeDir.ensures.grown))
    (λ l. ap (after_change (past_in c.args.draft.base c.args.roots.now c.args.nodes.now.items l) s) c.in-MakeDir.is)

pub put_file-requires-clause-not_root : goal.put_file-requires-clause-not_root
put_file-requires-clause-not_root c =
    let can = can_make c.args.draft c.args.roots.now c.args.nodes.now.items c.requires.no_fault c.in-PutFile.is in
    rw c.components-in-PutFile.ensures.names can.0

pub put_file-requires-clause-above : goal.put_file-requires-clause-above
put_file-requires-clause-above c =
    let can = can_make c.args.draft c.args.roots.now c.args.nodes.now.items c.requires.no_fault c.in-PutFile.is in
    rw c.components-in-PutFile.ensures.names can.1

pub returns-in_ok-root-in-PutFile-clause-ok : goal.returns-in_ok-root-in-PutFile-clause-ok
returns-in_ok-root-in-PutFile-clause-ok c =
    let s = pending_in c.args.draft.base c.args.nodes.now.items c.args.draft.root c.args.draft.lines in
    let can = can_make c.args.draft c.args.roots.now c.args.nodes.now.items c.requires.no_fault c.in-PutFile.is in
    let base = c.args.draft.base in
    let old = c.args.nodes.now.items in
    let path = c.in-PutFile.path in
    let part : Tree = leaf (with_text c.args.draft.lines (s.tree path) c.in-PutFile.text) in
    let g : IsGrafted base old c.put_file.new.nodes.items c.args.draft.root c.in_ok-root-in-PutFile.root path part =
    subst (λ (p : Path). IsGrafted base old c.put_file.new.nodes.items c.args.draft.root c.in_ok-root-in-PutFile.root p
    (leaf (with_text c.args.draft.lines (tree_in base old c.args.draft.root p) c.in-PutFile.text))) c.components-in-PutFile.ensures.names
    c.in_ok-root-in-PutFile.ensures.ok in
    let existed : c.in_ok-root-in-PutFile.existed ≡ is_some (s.tree path) =
    c.in_ok-root-in-PutFile.ensures.existed ∙ ap (λ (p : Path). is_some (s.tree p)) c.components-in-PutFile.ensures.names in
    let next : c.next_line-lines.result ≡ lines_after c.args.draft.lines (s.tree path) = c.next_line-lines.ensures
    ∙ next_is c.args.draft.lines (s.tree path) c.in_ok-root-in-PutFile.existed existed in
    let bounded : c.next_line-lines.result ≤ length c.put_file.new.nodes.items =
    rw c.next_line-lines.ensures (omega (
      arith,
      next_below c.in_ok-root-in-PutFile.existed c.args.draft.lines,
      c.requires.bounded,
      c.in_ok-root-in-PutFile.ensures.grown,
    )) in
    let with_lines : ℕ → Pending = λ n. record { tree = graft s.tree path part; lines = n } in
    made_by_graft base old c.put_file.new.nodes.items c.args.draft.root c.in_ok-root-in-PutFile.root c.args.draft.lines
    c.next_line-lines.result path part c.args.change.now c.args.roots.now
    g can.0 bounded (λ l. ap (after_change (past_in c.args.draft.base c.args.roots.now c.args.nodes.now.items l) s) c.in-PutFile.is
    ∙ ap with_lines (sym next))

pub put_old-requires-clause-not_root : goal.put_old-requires-clause-not_root
put_old-requires-clause-not_root c =
    let can = can_make c.args.draft c.args.roots.now c.args.nodes.now.items c.requires.no_fault c.in-Remove.is in
    rw c.components-in-Remove.ensures.names can.0

pub put_old-requires-clause-above : goal.put_old-requires-clause-above
put_old-requires-clause-above c =
    let can = can_make c.args.draft c.args.roots.now c.args.nodes.now.items c.requires.no_fault c.in-Remove.is in
    rw c.components-in-Remove.ensures.names can.1

pub returns-in_ok-root-in-Remove-clause-ok : goal.returns-in_ok-root-in-Remove-clause-ok
returns-in_ok-root-in-Remove-clause-ok c =
    let s = pending_in c.args.draft.base c.args.nodes.now.items c.args.draft.root c.args.draft.lines in
    let can = can_make c.args.draft c.args.roots.now c.args.nodes.now.items c.requires.no_fault c.in-Remove.is in
    let g = subst (λ (p : Path). IsGrafted c.args.draft.base c.args.nodes.now.items c.put_old.new.nodes.items c.args.draft.root
    c.in_ok-root-in-Remove.root p nothing) c.components-in-Remove.ensures.names c.in_ok-root-in-Remove.ensures.ok in
    made_by_graft c.args.draft.base c.args.nodes.now.items c.put_old.new.nodes.items c.args.draft.root c.in_ok-root-in-Remove.root
    c.args.draft.lines c.args.draft.lines c.in-Remove.path nothing c.args.change.now c.args.roots.now
    g can.0 (omega (arith, c.requires.bounded, c.put_old.ensures.kept.grown))
    (λ l. ap (after_change (past_in c.args.draft.base c.args.roots.now c.args.nodes.now.items l) s) c.in-Remove.is)

pub put_prop-requires-clause-way : goal.put_prop-requires-clause-way
put_prop-requires-clause-way c =
    rw c.components-in-SetProp.ensures.names
    (can_make c.args.draft c.args.roots.now c.args.nodes.now.items c.requires.no_fault c.in-SetProp.is)

pub returns-in_ok-root-in-SetProp-clause-ok : goal.returns-in_ok-root-in-SetProp-clause-ok
returns-in_ok-root-in-SetProp-clause-ok c =
    let base = c.args.draft.base in
    let old = c.args.nodes.now.items in
    let g = subst (λ (p : Path). IsGrafted base old c.put_prop.new.nodes.items c.args.draft.root c.in_ok-root-in-SetProp.root p
    (with_prop (tree_in base old c.args.draft.root) p c.in-SetProp.name c.in-SetProp.value)) c.components-in-SetProp.ensures.names
    c.in_ok-root-in-SetProp.ensures.ok in
    made_by_prop base old c.put_prop.new.nodes.items c.args.draft.root c.in_ok-root-in-SetProp.root c.args.draft.lines c.in-SetProp.path
    c.in-SetProp.name c.in-SetProp.value c.args.change.now c.args.roots.now
    g (omega (arith, c.requires.bounded, c.put_prop.ensures.kept.grown)) c.in-SetProp.is

pub source_of-node-requires : goal.source_of-node-requires
source_of-node-requires c =
    let can = can_make c.args.draft c.args.roots.now c.args.nodes.now.items c.requires.no_fault c.in-CopyFrom.is in
    rw (c.deref.ensures.value, c.components-in-CopyFrom.ensures.names)
    (source_found c.args.draft.base c.args.roots.now c.args.nodes.now.items c.requires.draft.base_in c.requires.roots_in
    c.requires.draft.old_closed 0 c.in-CopyFrom.rev c.in-CopyFrom.source can.present)

pub put_old-requires-in-CopyFrom-clause-not_root : goal.put_old-requires-in-CopyFrom-clause-not_root
put_old-requires-in-CopyFrom-clause-not_root c =
    let can = can_make c.args.draft c.args.roots.now c.args.nodes.now.items c.requires.no_fault c.in-CopyFrom.is in
    rw c.components-in-CopyFrom-2.ensures.names can.not_root

pub put_old-requires-in-CopyFrom-clause-above : goal.put_old-requires-in-CopyFrom-clause-above
put_old-requires-in-CopyFrom-clause-above c =
    let can = can_make c.args.draft c.args.roots.now c.args.nodes.now.items c.requires.no_fault c.in-CopyFrom.is in
    rw c.components-in-CopyFrom-2.ensures.names can.above

pub put_old-requires-in-CopyFrom-clause-old : goal.put_old-requires-in-CopyFrom-clause-old
put_old-requires-in-CopyFrom-clause-old c =
    let found = rw (c.deref.ensures.value, c.components-in-CopyFrom.ensures.names) at c.source_of-node.ensures in
    let inside : c.source_of-node.result < c.args.draft.base =
    looked_in c.args.draft.base c.args.roots.now c.args.nodes.now.items c.requires.draft.base_in c.requires.roots_in
    c.requires.draft.old_closed c.in-CopyFrom.rev c.source_of-node.result c.in-CopyFrom.source found in
    λ n e. (let same : c.source_of-node.result ≡ n = cc in subst (λ (k : ℕ). k < c.args.draft.base) same inside)

pub returns-in_ok-root-in-CopyFrom-clause-ok : goal.returns-in_ok-root-in-CopyFrom-clause-ok
returns-in_ok-root-in-CopyFrom-clause-ok c =
    let s = pending_in c.args.draft.base c.args.nodes.now.items c.args.draft.root c.args.draft.lines in
    let can = can_make c.args.draft c.args.roots.now c.args.nodes.now.items c.requires.no_fault c.in-CopyFrom.is in
    let base = c.args.draft.base in
    let old = c.args.nodes.now.items in
    let node = c.source_of-node.result in
    let path = c.in-CopyFrom.path in
    let found = rw (c.deref.ensures.value, c.components-in-CopyFrom.ensures.names) at c.source_of-node.ensures in
    let g = subst (λ (p : Path). IsGrafted base old c.put_old-in-CopyFrom.new.nodes.items c.args.draft.root c.in_ok-root-in-CopyFrom.root p
    (old_part base old (Some node))) c.components-in-CopyFrom-2.ensures.names c.in_ok-root-in-CopyFrom.ensures.ok in
    let with_part : Tree → Pending = λ part. record { tree = graft s.tree path part; lines = c.args.draft.lines } in
    made_by_graft base old c.put_old-in-CopyFrom.new.nodes.items c.args.draft.root c.in_ok-root-in-CopyFrom.root c.args.draft.lines
    c.args.draft.lines path (old_part base old (Some node)) c.args.change.now c.args.roots.now
    g can.not_root (omega (arith, c.requires.bounded, c.put_old-in-CopyFrom.ensures.kept.grown))
    (λ l. ap (after_change (past_in base c.args.roots.now old l) s) c.in-CopyFrom.is
    ∙ ap with_part (copied_part base c.args.roots.now old c.requires.draft.base_in c.requires.roots_in c.requires.draft.old_closed l
    c.in-CopyFrom.rev node c.in-CopyFrom.source found))
