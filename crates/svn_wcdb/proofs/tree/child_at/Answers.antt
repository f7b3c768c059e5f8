use Rattle.std.proofs.Common.{ℕ, [], get_or, ap, ap₂, ◌∙◌, arith, ◌≡◌}
use Rattle.sqlite_format.specs.declared.kind.Kind.{Kind}
use Rattle.sqlite_format.specs.Cell.{cell_child}
use Rattle.sqlite_format.specs.Page.{cell_count, page_cells, right_child}
use Rattle.svn_wcdb.specs.Pages.{header_of}
use Rattle.svn_wcdb.proofs.TreeLemmas.{child_of_cell, last_child}
use Rattle.svn_wcdb.proofs.tree.child_at.Goals as goal

pub returns-then-i-node : goal.returns-then-i-node
returns-then-i-node c =
    let node = c.args.node.now in
    let count : node.count ≡ cell_count node.bytes.now (header_of c.args.number) = node.counted ∙ ap (λ (h : ℕ). cell_count node.bytes.now h) c.requires.header in
    c.right.ensures ∙ ap (λ (h : ℕ). right_child node.bytes.now h) c.requires.header
    ∙ last_child node.bytes.now c.args.number c.args.i (c.if-i-node.true ∙ count)

pub returns : goal.returns
returns c =
    let node = c.args.node.now in
    let count : node.count ≡ cell_count node.bytes.now (header_of c.args.number) = node.counted ∙ ap (λ (h : ℕ). cell_count node.bytes.now h) c.requires.header in
    c.in-Some.ensures c.requires.sound
    ∙ ap₂ (λ (k : Kind) (h : ℕ). cell_child (get_or (page_cells k node.bytes.now h) c.args.i [])) c.requires.kind c.requires.header
    ∙ child_of_cell node.bytes.now c.args.number c.args.i (omega (arith, count, c.requires.within, c.if-i-node.false))
