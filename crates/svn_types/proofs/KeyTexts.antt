-- A key is a text: its names are, and so is the byte 1 after each.
use Rattle.std.proofs.Common.{◌≡◌, List, ℕ, zero, suc, ◌+◌, [], ◌∷◌, ◌++◌, length, drop, get_or, IsUtf8, refl, subst, arith}
use Rattle.std.proofs.Math.Seq.{get_or-append_seam, drop-append-add}
use Rattle.std.proofs.lemmas.List.{length-append}
use Rattle.std.proofs.lemmas.Str.{IsUtf8-append, IsUtf8-drop, IsCharBoundary-after_ascii}
use Rattle.svn_types.specs.Names.{Path}
use Rattle.svn_types.specs.PathKeys.{path_key}

separator : IsUtf8 (1 ∷ [])
unfolding lib.Utf8.encode
separator = (1 ∷ [], (refl, refl))

-- a text with one name more
pub text_with_name : (above last : List ℕ) → IsUtf8 above → IsUtf8 last → ∥ IsUtf8 ((above ++ last) ++ 1 ∷ []) ∥₁
text_with_name above last ha hl = ∣ IsUtf8-append (above ++ last) (1 ∷ []) (IsUtf8-append above last ha hl) separator ∣₁

-- three texts, one after the other
pub text_of_three : (above below end : List ℕ) → IsUtf8 above → IsUtf8 below → IsUtf8 end → ∥ IsUtf8 ((above ++ below) ++ end) ∥₁
text_of_three above below end ha hb he = ∣ IsUtf8-append (above ++ below) end (IsUtf8-append above below ha hb) he ∣₁

-- ---- a key without its first names

-- a text may be cut after the byte 1
past_name : (n s : List ℕ) → IsUtf8 (n ++ 1 ∷ s) → IsUtf8 s
past_name n s h =
    let seam : get_or (n ++ 1 ∷ s) (length n) 0 ≡ 1 = get_or-append_seam n 1 s 0 in
    let rest : drop (length n + 1) (n ++ 1 ∷ s) ≡ s = drop-append-add n (1 ∷ s) 1 in
    subst IsUtf8 rest
    (IsUtf8-drop (n ++ 1 ∷ s) (length n + 1) h
    (IsCharBoundary-after_ascii (n ++ 1 ∷ s) (length n) h (omega (arith, length-append n (1 ∷ s))) (omega (arith, seam))))

pub text_cut : (k : ℕ) (p : Path) → IsUtf8 (path_key p) → IsUtf8 (path_key (drop k p))
text_cut zero p h = h
text_cut (suc k) [] h = h
text_cut (suc k) (n ∷ p) h = text_cut k p (past_name n (path_key p) h)
