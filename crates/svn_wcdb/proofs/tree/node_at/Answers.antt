use Rattle.std.proofs.Common.{ℕ, List, length, Ok, sym, ap, subst, ◌∙◌}
use Rattle.std.proofs.lemmas.Bool.{MatchBool-at_true, MatchBool-at_false, iff_false}
use Rattle.sqlite_format.specs.Node.{IsSound}
use Rattle.sqlite_format.specs.Page.{IsPage}
use Rattle.svn_wcdb.specs.Images.{page_in, seen_file}
use Rattle.svn_wcdb.specs.Pages.{kind_of, header_of}
use Rattle.svn_wcdb.proofs.TreeLemmas.{no_page_at, bad_page_at, page_at, kind_is, sound_from, page_from, not_a_table}
use Rattle.svn_wcdb.proofs.tree.node_at.Goals as goal

pub returns-in_default-clause-page : goal.returns-in_default-clause-page
returns-in_default-clause-page c = no_page_at (page_in (seen_file c.args.image.now)) c.args.number (sym c.in_default.ensures.value)

pub returns-in_default-parse-clause-page : goal.returns-in_default-parse-clause-page
returns-in_default-parse-clause-page c =
    bad_page_at (page_in (seen_file c.args.image.now)) c.args.number c.in-Some.bytes.now (sym c.in-Some.ensures.value)
    (λ leaf page. c.in_default-parse.ensures.sound (kind_of leaf)
    (subst (λ (h : ℕ). IsPage (kind_of leaf) c.in-Some.bytes.now h) (sym c.header_of.ensures.value) page))

pub returns-then-not-is_table-clause-page : goal.returns-then-not-is_table-clause-page
returns-then-not-is_table-clause-page c =
    bad_page_at (page_in (seen_file c.args.image.now)) c.args.number c.in-Some.bytes.now (sym c.in-Some.ensures.value)
    (λ leaf page. not_a_table c.in-Some-parse.node.kind leaf (MatchBool-at_false _ _ c.if-not-is_table.true c.is_table.ensures)
    (c.in-Some-parse.ensures.sound (kind_of leaf)
    (subst (λ (h : ℕ). IsPage (kind_of leaf) c.in-Some.bytes.now h) (sym c.header_of.ensures.value) page)))

pub returns-then-not-branch-clause-page : goal.returns-then-not-branch-clause-page
returns-then-not-branch-clause-page c =
    bad_page_at (page_in (seen_file c.args.image.now)) c.args.number c.in-Some.bytes.now (sym c.in-Some.ensures.value)
    (λ leaf page.
    let found = subst (λ (h : ℕ). IsPage (kind_of leaf) c.in-Some.bytes.now h) (sym c.header_of.ensures.value) page in
    iff_false c.in_ok-is_sound.ensures c.if-not-branch.true
    (sound_from c.in-Some-parse.node (kind_of leaf) c.in-Some.bytes.now c.header_of.result (c.in-Some-parse.ensures.sound (kind_of leaf) found)
    c.in-Some-parse.ensures.same.0 c.in-Some-parse.ensures.same.1 found))

pub returns-clause-page : goal.returns-clause-page
returns-clause-page c =
    let node = c.in-Some-parse.node in
    let sound : IsSound node = c.in_ok-is_sound.ensures.0 c.if-not-branch.false in
    let kind = kind_is node.kind (MatchBool-at_true _ _ c.if-not-is_table.false c.is_table.ensures) in
    page_at (page_in (seen_file c.args.image.now)) c.args.number c.in-Some.bytes.now node.kind.leaf (sym c.in-Some.ensures.value)
    (page_from node (kind_of node.kind.leaf) c.in-Some.bytes.now (header_of c.args.number) kind c.in-Some-parse.ensures.same.0
    (c.in-Some-parse.ensures.same.1 ∙ c.header_of.ensures.value) sound)
    ∙ ap (λ (b : List ℕ). Ok (record { leaf = node.kind.leaf; bytes = b })) (sym c.in-Some-parse.ensures.same.0)

pub returns-clause-node : goal.returns-clause-node
returns-clause-node c =
    let node = c.in-Some-parse.node in
    record {
      sound = c.in_ok-is_sound.ensures.0 c.if-not-branch.false;
      header = c.in-Some-parse.ensures.same.1 ∙ c.header_of.ensures.value;
      kind = kind_is node.kind (MatchBool-at_true _ _ c.if-not-is_table.false c.is_table.ensures);
      size = ap (λ (b : List ℕ). length b) c.in-Some-parse.ensures.same.0 ∙ c.in-Some.ensures.whole;
    }
