-- Chains of overflow pages, page by page.
use Rattle.std.proofs.Common.{◌≡◌, ℕ, zero, suc, ◌+◌, ◌-◌, ◌<◌, ◌≤◌, false, List, [], Result, Ok, Err, refl, sym, ap, ◌∙◌, arith}
use Rattle.std.specs.Prelude.{nat_eq}
use Rattle.std.proofs.lemmas.Bool.{cond-false, ne_eqb}
use Rattle.sqlite_pages.specs.PageMap.{PageMap}
use Rattle.svn_wcdb.specs.declared.fault.Reason.{Reason}
use Rattle.svn_wcdb.specs.declared.fault.Reason.TheVariants.{Loop}
use Rattle.svn_wcdb.specs.declared.fault.WcdbFault.{WcdbFault}
use Rattle.svn_wcdb.specs.Reading.{◌>>=◌, Fails}
use Rattle.svn_wcdb.specs.Tables.{Bytes, take_page, link_after, chain_end, chain_after}
use Rattle.svn_wcdb.proofs.ReadingLemmas.{fails_first, fails_same}

pub take_none : (n spare : ℕ) → spare ≡ 0 → take_page n spare ≡ Err (Loop n)
unfolding take_page
take_none n spare none = rw none refl

pub take_one : (n spare : ℕ) → ¬ (spare ≡ 0) → take_page n spare ≡ Ok (spare - 1)
unfolding take_page
take_one n zero some = absurd (some refl)
take_one n (suc spare) some =
    let less : spare ≡ suc spare - 1 = omega arith in
    ap (λ k. Ok k) less

some_left : (left : ℕ) → 0 < left → nat_eq left 0 ≡ false
some_left left h = ne_eqb left 0 (λ e. omega (arith, h, e))

next_link : (pages : PageMap) (size spare n left : ℕ) (bytes : List ℕ) → 0 < left
    → chain_after pages size (suc spare) n left bytes ≡ (link_after pages size n left bytes >>= λ link. chain_after pages size spare link.0 link.1 link.2)
unfolding chain_after
next_link pages size spare n left bytes h = cond-false _ _ _ (some_left left h)

-- one more page was read
pub one_link : (pages : PageMap) (size spare n left : ℕ) (bytes : List ℕ) (spare2 next rest : ℕ) (new : List ℕ) (all : Result Bytes Reason)
    → spare ≡ spare2 + 1 → 0 < left → link_after pages size n left bytes ≡ Ok (next, rest, new) → chain_after pages size spare n left bytes ≡ all
    → chain_after pages size spare2 next rest new ≡ all
one_link pages size spare n left bytes spare2 next rest new all fewer h read reads =
    let more : spare ≡ suc spare2 = omega (arith, fewer) in
    sym (ap (λ s. chain_after pages size s n left bytes) more ∙ next_link pages size spare2 n left bytes h
    ∙ ap (λ (r : Result (ℕ × ℕ × List ℕ) Reason). r >>= λ link. chain_after pages size spare2 link.0 link.1 link.2) read)
    ∙ reads

-- a page that can't be read
pub bad_link : (pages : PageMap) (size spare n left : ℕ) (bytes : List ℕ) (spare2 : ℕ) (e : WcdbFault) (all : Result Bytes Reason)
    → spare ≡ spare2 + 1 → 0 < left → Fails e (link_after pages size n left bytes) → chain_after pages size spare n left bytes ≡ all → Fails e all
bad_link pages size spare n left bytes spare2 e all fewer h failed reads =
    let more : spare ≡ suc spare2 = omega (arith, fewer) in
    fails_same e _ all (fails_first e (link_after pages size n left bytes) (λ link. chain_after pages size spare2 link.0 link.1 link.2) failed)
    (sym (ap (λ s. chain_after pages size s n left bytes) more ∙ next_link pages size spare2 n left bytes h) ∙ reads)

-- a fault in place of a number is one in place of the bytes
abbrev err_of : Result ℕ Reason → Result Bytes Reason
err_of (Ok n) = Ok ([], n)
err_of (Err reason) = Err reason

-- no page is spare
pub no_page : (pages : PageMap) (size spare n left : ℕ) (bytes : List ℕ) (reason : Reason) (all : Result Bytes Reason)
    → take_page n spare ≡ Err reason → 0 < left → chain_after pages size spare n left bytes ≡ all → all ≡ Err reason
unfolding take_page chain_after
no_page pages size zero n left bytes reason all taken h reads =
    sym (sym (cond-false (nat_eq left 0) (chain_end n bytes 0) (Err (Loop n)) (some_left left h)) ∙ reads) ∙ ap err_of taken
no_page pages size (suc spare) n left bytes reason all taken h reads = cc

-- no byte is left
pub last_link : (pages : PageMap) (size spare n left : ℕ) (bytes : List ℕ) (all : Result Bytes Reason)
    → left ≤ 0 → chain_after pages size spare n left bytes ≡ all → chain_end n bytes spare ≡ all
unfolding chain_after
last_link pages size zero n zero bytes all h reads = reads
last_link pages size (suc spare) n zero bytes all h reads = reads
last_link pages size spare n (suc left) bytes all h reads = absurd (omega (arith, h))
