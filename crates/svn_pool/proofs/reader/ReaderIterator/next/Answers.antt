use Rattle.std.proofs.Common.{◌≡◌, ◌-◌, ℕ, List, [], ◌∷◌, ◌++◌, length, sym, ap, subst, ◌∙◌, append_assoc, append-nil}
use Rattle.std.proofs.lemmas.List.{map_push}
use denote.Ref.{Bor}
use Rattle.svn_pool.specs.Frames.{Contents, IsFramed, unframe}
use Rattle.svn_pool.specs.Layout.{strings_of}
use Rattle.svn_pool.specs.Readers.{targets, to_read}
use Rattle.svn_pool.proofs.Frames.{first_left}
use Rattle.svn_pool.proofs.reader.ReaderIterator.next.Goals as goal

-- the strings of the oldest page come first
strings_of-last : (ps : List Contents) (p : Contents) → strings_of (ps ++ p ∷ []) ≡ p.strings ++ strings_of ps
strings_of-last [] p = sym (append-nil p.strings)
strings_of-last (q ∷ ps) p =
    ap (λ (ss : List (List ℕ)). ss ++ q.strings) (strings_of-last ps p) ∙ append_assoc p.strings (strings_of ps) q.strings

pub loop-self-preserved : goal.loop-self-preserved
loop-self-preserved g c =
    let s = c.loop-self.self-inside in
    let p = c.in-Some.page.now in
    let count : c.count-self-inside.result ≡ length p.strings = c.count-self-inside.ensures in
    let framed : IsFramed c.count-self-inside.result c.bytes-self-inside.result.now =
    subst (λ (k : ℕ). IsFramed k c.bytes-self-inside.result.now) (sym count) c.bytes-self-inside.ensures.framed in
    let strings : unframe c.count-self-inside.result c.bytes-self-inside.result.now ≡ p.strings =
    ap (λ (k : ℕ). unframe k c.bytes-self-inside.result.now) count ∙ c.bytes-self-inside.ensures.strings in
    let pages : targets s.pages.items ≡ targets c.pop.new.self.items ++ p ∷ [] =
    ap targets c.in-Some.ensures.items ∙ map_push (λ (b : Bor Contents). b.now) c.pop.new.self.items c.in-Some.page in
    let before : to_read s.left s.rest.now (targets s.pages.items) ≡ p.strings ++ strings_of (targets c.pop.new.self.items) =
    ap (λ (k : ℕ). to_read k s.rest.now (targets s.pages.items)) c.loop-self-test.true ∙ ap strings_of pages
    ∙ strings_of-last (targets c.pop.new.self.items) p in
    (framed, ap (λ (ss : List (List ℕ)). ss ++ strings_of (targets c.pop.new.self.items)) strings ∙ sym before ∙ c.loop-self.invariant.1)

pub first-string-requires-clause-head : goal.first-string-requires-clause-head
first-string-requires-clause-head g c =
    (first_left c.loop-self.self-inside.left c.loop-self.self-inside.rest.now c.loop-self-test.false c.loop-self.invariant.0).head

pub first-string-requires-clause-body : goal.first-string-requires-clause-body
first-string-requires-clause-body g c =
    (first_left c.loop-self.self-inside.left c.loop-self.self-inside.rest.now c.loop-self-test.false c.loop-self.invariant.0).body

pub after_first-self-inside-requires-clause-head : goal.after_first-self-inside-requires-clause-head
after_first-self-inside-requires-clause-head g c =
    (first_left c.loop-self.self-inside.left c.loop-self.self-inside.rest.now c.loop-self-test.false c.loop-self.invariant.0).head

pub after_first-self-inside-requires-clause-body : goal.after_first-self-inside-requires-clause-body
after_first-self-inside-requires-clause-body g c =
    (first_left c.loop-self.self-inside.left c.loop-self.self-inside.rest.now c.loop-self-test.false c.loop-self.invariant.0).body

pub invariant_of-self-2 : goal.invariant_of-self-2
invariant_of-self-2 g c =
    subst (IsFramed (c.loop-self.self-inside.left - 1)) (sym c.after_first-self-inside.ensures)
    (first_left c.loop-self.self-inside.left c.loop-self.self-inside.rest.now c.loop-self-test.false c.loop-self.invariant.0).rest
