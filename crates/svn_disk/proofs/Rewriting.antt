-- Texts that are rewritten part by part, and what comes of a byte that cuts a text.
use Rattle.std.proofs.Common.{◌≡◌, ℕ, Bool, true, false, true≢false, ◌⊎◌, inl, inr, ◌&&◌, ◌||◌, not, nat_eq, List, [], ◌∷◌, ◌++◌, take, drop, length, get_or, replicate, refl, sym, ◌∙◌, ap, subst, append_assoc, append-nil, ◌+◌, ◌-◌, ◌<◌, arith, length-append}
use Rattle.std.specs.Prelude.{Option, Some, None, position, codes}
use Rattle.std.specs.List.{list_all, flat_map}
use Rattle.std.proofs.lemmas.Bool.{and_parts, not_from_false}
use Rattle.std.proofs.lemmas.List.{take-append-drop, drop_more, take_more, get_or-take, length-take, length-replicate, replicate_more}
use Rattle.std.proofs.lemmas.List.Quantifiers.{position-Some}
use Rattle.std.proofs.lemmas.List.Sums.{list_all-from_AllPass}
use Rattle.std.proofs.lemmas.Grind.{flat_map-append}
use Rattle.svn_disk.specs.Readings.{EachPart, Rewrites, IsKeyword, IsBlanked, is_plain, AreEnds, is_end}
use Rattle.svn_disk.specs.Signs.{no_end, no_sign, IsAfterName, IsKept, Pushes, IsEnded}

-- ---- parts, one after the other

module _ (R : List ℕ → List ℕ → Type 0) where
  each_more : (parts : List (List ℕ × List ℕ)) (some written : List ℕ) → EachPart R parts → (some ≡ written) ⊎ R some written
      → EachPart R (parts ++ (some, written) ∷ [])
  each_more [] some written each one = (one, tt)
  each_more (part ∷ parts) some written each one = (each.0, each_more parts some written each.1 one)

  pub rewrites_none : Rewrites R [] []
  rewrites_none = record { parts = []; each = tt; shown_is = refl; kept_is = refl }

  pub rewrites_more : (shown kept some written : List ℕ) → Rewrites R shown kept → (some ≡ written) ⊎ R some written → Rewrites R (shown ++ some) (kept ++ written)
  rewrites_more shown kept some written first one = record {
    parts = first.parts ++ (some, written) ∷ [];
    each = each_more first.parts some written first.each one;
    shown_is = flat_map-append (λ (part : List ℕ × List ℕ). part.0) first.parts ((some, written) ∷ [])
        ∙ ap (λ bytes. bytes ++ (some ++ [])) first.shown_is ∙ ap (λ bytes. shown ++ bytes) (append-nil some);
    kept_is = flat_map-append (λ (part : List ℕ × List ℕ). part.1) first.parts ((some, written) ∷ [])
        ∙ ap (λ bytes. bytes ++ (written ++ [])) first.kept_is ∙ ap (λ bytes. kept ++ bytes) (append-nil written);
  }

  pub rewrites_same : (shown kept same : List ℕ) → Rewrites R shown kept → Rewrites R (shown ++ same) (kept ++ same)
  rewrites_same shown kept same first = rewrites_more shown kept same same first (inl refl)

  pub rewrites_all : (shown : List ℕ) → Rewrites R shown shown
  rewrites_all shown = rewrites_same [] [] shown rewrites_none

-- ---- a byte that cuts a text

nat_same : (a b : ℕ) → nat_eq a b ≡ true → a ≡ b
nat_same a b h = grind arith

-- it is at the first place, and after it comes the rest
pub after_cut : (x : ℕ) (bytes : List ℕ) (i : ℕ) → position (λ b. nat_eq b x) bytes ≡ Some i → drop i bytes ≡ x ∷ drop (i + 1) bytes
after_cut x bytes i h =
    let facts = position-Some (λ b. nat_eq b x) bytes i 0 h in
    drop_more bytes i 0 facts.0 ∙ ap (λ b. b ∷ drop (i + 1) bytes) (nat_same (get_or bytes i 0) x facts.1)

pub cut_at : (x : ℕ) (bytes : List ℕ) (i : ℕ) → position (λ b. nat_eq b x) bytes ≡ Some i → bytes ≡ take i bytes ++ (x ∷ drop (i + 1) bytes)
cut_at x bytes i h = sym (take-append-drop i bytes) ∙ ap (λ rest. take i bytes ++ rest) (after_cut x bytes i h)

pub cut_within : (x : ℕ) (bytes : List ℕ) (i : ℕ) → position (λ b. nat_eq b x) bytes ≡ Some i → i < length bytes
cut_within x bytes i h = (position-Some (λ b. nat_eq b x) bytes i 0 h).0

-- before it there is none
pub none_before : (x : ℕ) (bytes : List ℕ) (i : ℕ) → position (λ b. nat_eq b x) bytes ≡ Some i → list_all (λ b. not (nat_eq b x)) (take i bytes) ≡ true
none_before x bytes i h = list_all-from_AllPass (λ b. not (nat_eq b x)) (take i bytes) (λ k d below.
    let low : k < i = omega (arith, length-take i bytes) in
    let other : nat_eq (get_or (take i bytes) k d) x ≡ false =
    ap (λ b. nat_eq b x) (get_or-take i bytes k d low) ∙ (position-Some (λ b. nat_eq b x) bytes i d h).2 k low in
    not_from_false (nat_eq (get_or (take i bytes) k d) x) other)

-- ---- a keyword

plain_one : (b : ℕ) → no_end b ≡ true → no_sign b ≡ true → is_plain b ≡ true
plain_one b end sign = by (nat_eq b 36) (nat_eq b 10) (nat_eq b 13) end sign
  where
    by : (x y z : Bool) → not (y || z) ≡ true → not x ≡ true → not (x || y || z) ≡ true
    by true y z end sign = sign
    by false y z end sign = end

plain_all : (bytes : List ℕ) → list_all no_end bytes ≡ true → list_all no_sign bytes ≡ true → list_all is_plain bytes ≡ true
plain_all [] end sign = refl
plain_all (b ∷ bytes) end sign =
    let ends = and_parts (no_end b) (list_all no_end bytes) end in
    let signs = and_parts (no_sign b) (list_all no_sign bytes) sign in
    ap (λ x. x && list_all is_plain bytes) (plain_one b ends.0 signs.0) ∙ plain_all bytes ends.1 signs.1

abbrev signed : List ℕ → List ℕ
signed keyword = codes "$" ++ keyword ++ codes "$"

module _ (keyword name : List ℕ) (end : list_all no_end keyword ≡ true) (sign : list_all no_sign keyword ≡ true) where
  signed_long : (words : List ℕ) → keyword ≡ name ++ codes ":" ++ words → signed keyword ≡ codes "$" ++ name ++ codes ":" ++ words ++ codes "$"
  signed_long words is =
      ap signed is ∙ simp append_assoc

  is_keyword : (words kept : List ℕ) → keyword ≡ name ++ codes ":" ++ words
      → (kept ≡ codes "$" ++ name ++ codes "$") ⊎ IsBlanked name (signed keyword) kept → IsKeyword (signed keyword) kept
  is_keyword words kept is how = record {
    name = name;
    value = words;
    plain = ap (list_all is_plain) (sym is) ∙ plain_all keyword end sign;
    shown_is = signed_long words is;
    kept_is = how;
  }

-- what is between two signs, by what is after its name
module _ (keyword name value : List ℕ) (parts : keyword ≡ name ++ value) (end : list_all no_end keyword ≡ true) (sign : list_all no_sign keyword ≡ true) where
  pub kept_named : IsAfterName value → IsKept (signed keyword) (codes "$" ++ name ++ codes "$")
  kept_named (inl none) = inl (ap signed (parts ∙ ap (λ bytes. name ++ bytes) none ∙ append-nil name))
  kept_named (inr (words, is)) =
      let all : keyword ≡ name ++ codes ":" ++ words = parts ∙ ap (λ bytes. name ++ bytes) is ∙ sym (append_assoc name (codes ":") words) in
      inr (is_keyword keyword name end sign words (codes "$" ++ name ++ codes "$") all (inl refl))

  blanked_long : (long : 4 < length value) → length (codes "$" ++ name ++ codes "::" ++ replicate (length value - 2) 32 ++ codes "$") ≡ length (signed keyword)
  blanked_long long =
      let blanks : length (replicate {A = ℕ} (length value - 2) 32) ≡ length value - 2 = length-replicate (length value - 2) 32 in
      let values : length keyword ≡ length name + length value = ap length parts ∙ length-append name value in
      length-append (codes "$" ++ name ++ codes "::" ++ replicate (length value - 2) 32) (codes "$")
      ∙ omega (
        arith,
        long,
        values,
        length-append (codes "$" ++ name ++ codes "::") (replicate (length value - 2) 32),
        length-append (codes "$" ++ name) (codes "::"),
        blanks,
        length-append keyword (codes "$"),
      )

  pub kept_blanked : 4 < length value → IsAfterName value
      → IsKept (signed keyword) (codes "$" ++ name ++ codes "::" ++ replicate (length value - 2) 32 ++ codes "$")
  kept_blanked long (inl none) = absurd (omega (arith, ap length none))
  kept_blanked long (inr (words, is)) =
      let all : keyword ≡ name ++ codes ":" ++ words = parts ∙ ap (λ bytes. name ++ bytes) is ∙ sym (append_assoc name (codes ":") words) in
      inr (is_keyword keyword name end sign words (codes "$" ++ name ++ codes "::" ++ replicate (length value - 2) 32 ++ codes "$") all
      (inr (record { blanks = length value - 2; kept_is = refl; long = blanked_long long })))

-- one more blank
pub blank_more : (old name out new : List ℕ) (k : ℕ) → out ≡ old ++ (codes "$" ++ name ++ codes "::" ++ replicate k 32) → new ≡ out ++ 32 ∷ []
    → new ≡ old ++ (codes "$" ++ name ++ codes "::" ++ replicate (k + 1) 32)
blank_more old name out new k so_far more =
    let word : List ℕ = codes "$" ++ name ++ codes "::" in
    more ∙ ap (λ bytes. bytes ++ 32 ∷ []) so_far ∙ append_assoc old (word ++ replicate k 32) (32 ∷ [])
    ∙ ap (λ bytes. old ++ bytes) (append_assoc word (replicate k 32) (32 ∷ []) ∙ ap (λ bytes. word ++ bytes) (replicate_more k 32))

-- and the last sign
pub blank_last : (old name out new : List ℕ) (k n : ℕ) → k ≡ n → out ≡ old ++ (codes "$" ++ name ++ codes "::" ++ replicate k 32)
    → new ≡ out ++ 36 ∷ [] → new ≡ old ++ (codes "$" ++ name ++ codes "::" ++ replicate n 32 ++ codes "$")
blank_last old name out new k n same so_far more =
    more ∙ ap (λ bytes. bytes ++ 36 ∷ []) (so_far ∙ ap (λ j. old ++ (codes "$" ++ name ++ codes "::" ++ replicate j 32)) same)
    ∙ append_assoc old (codes "$" ++ name ++ codes "::" ++ replicate n 32) (36 ∷ [])

-- ---- a text without values

-- the text is what was gone through, and the rest
pub record IsAsFar (text rest out : List ℕ) : Type 0 where
  pub front : List ℕ
  pub is : text ≡ front ++ rest
  pub rewritten : Rewrites IsKeyword front out

pub as_far_none : (text : List ℕ) → IsAsFar text text []
as_far_none text = record { front = []; is = refl; rewritten = rewrites_none IsKeyword }

pub as_far_all : (text rest out : List ℕ) → IsAsFar text rest out → Rewrites IsKeyword text (out ++ rest)
as_far_all text rest out far =
    subst (λ (bytes : List ℕ). Rewrites IsKeyword bytes (out ++ rest)) (sym far.is) (rewrites_same IsKeyword far.front out rest far.rewritten)

-- what is kept as something else, and then something else is left
as_far_more : (text rest out some written left : List ℕ) → IsAsFar text rest out → rest ≡ some ++ left → IsKept some written → IsAsFar text left (out ++ written)
as_far_more text rest out some written left far cut kept = record {
  front = far.front ++ some;
  is = far.is ∙ ap (λ bytes. far.front ++ bytes) cut ∙ sym (append_assoc far.front some left);
  rewritten = rewrites_more IsKeyword far.front out some written far.rewritten kept;
}

-- up to a sign, and the sign
pub as_far_sign : (text rest out front after pushed new : List ℕ) (i : ℕ) → IsAsFar text rest out → position (λ b. nat_eq b 36) rest ≡ Some i
    → front ≡ take i rest → after ≡ drop (i + 1) rest → pushed ≡ out ++ front → new ≡ pushed ++ 36 ∷ [] → IsAsFar text after new
as_far_sign text rest out front after pushed new i far found front_is after_is first more =
    let cut : rest ≡ front ++ (36 ∷ after) =
    cut_at 36 rest i found ∙ ap (λ bytes. bytes ++ (36 ∷ drop (i + 1) rest)) (sym front_is) ∙ ap (λ bytes. front ++ (36 ∷ bytes)) (sym after_is) in
    let before = as_far_more text rest out front front (36 ∷ after) far cut (inl refl) in
    subst (λ (bytes : List ℕ). IsAsFar text after bytes) (sym (more ∙ ap (λ bytes. bytes ++ 36 ∷ []) first))
    (as_far_more text (36 ∷ after) (out ++ front) (codes "$") (codes "$") after before refl (inl refl))

-- and a keyword, which ends at the next sign
pub as_far_keyword : (text rest out front after pushed keyword left new : List ℕ) (i j : ℕ) → IsAsFar text rest out
    → position (λ b. nat_eq b 36) rest ≡ Some i → front ≡ take i rest → after ≡ drop (i + 1) rest → pushed ≡ out ++ front
    → position (λ b. nat_eq b 36) after ≡ Some j → keyword ≡ take j after → left ≡ drop (j + 1) after → Pushes keyword pushed true new → IsAsFar text left new
as_far_keyword text rest out front after pushed keyword left new i j far found front_is after_is first next keyword_is left_is pushes =
    let cut : rest ≡ front ++ (36 ∷ after) =
    cut_at 36 rest i found ∙ ap (λ bytes. bytes ++ (36 ∷ drop (i + 1) rest)) (sym front_is) ∙ ap (λ bytes. front ++ (36 ∷ bytes)) (sym after_is) in
    let before = as_far_more text rest out front front (36 ∷ after) far cut (inl refl) in
    let (kept, how, more) = pushes in
    let word : 36 ∷ after ≡ signed keyword ++ left =
    ap (λ bytes. 36 ∷ bytes) (cut_at 36 after j next ∙ ap (λ bytes. bytes ++ (36 ∷ drop (j + 1) after)) (sym keyword_is)
    ∙ ap (λ bytes. keyword ++ (36 ∷ bytes)) (sym left_is) ∙ sym (append_assoc keyword (codes "$") left)) in
    subst (λ (bytes : List ℕ). IsAsFar text left bytes) (sym (more ∙ ap (λ bytes. bytes ++ kept) first))
    (as_far_more text (36 ∷ after) (out ++ front) (signed keyword) kept left before word how)

pub keyword_alone : (after keyword : List ℕ) (j : ℕ) → position (λ b. nat_eq b 36) after ≡ Some j → keyword ≡ take j after → list_all no_sign keyword ≡ true
keyword_alone after keyword j next is = ap (list_all no_sign) is ∙ none_before 36 after j next

-- ---- line ends

pub ended_none : (end : List ℕ) → IsEnded end [] [] 10
ended_none end = record { rewritten = rewrites_none AreEnds; half = λ other. absurd (omega (arith, other)) }

module _ (end : List ℕ) (is : is_end end ≡ true) (text out : List ℕ) (before : ℕ) (ended : IsEnded end text out before) where
  -- the second byte of an end
  pub ended_second : before ≡ 13 → IsEnded end (text ++ 10 ∷ []) out 10
  ended_second again =
      let (shown, kept, text_is, out_is, first) = ended.half again in
      let both : Rewrites AreEnds (shown ++ 13 ∷ 10 ∷ []) (kept ++ end) = rewrites_more AreEnds shown kept (13 ∷ 10 ∷ []) end first (inr (refl, is)) in
      record {
        rewritten = subst (λ (bytes : List ℕ). Rewrites AreEnds bytes out) (sym (ap (λ (bytes : List ℕ). bytes ++ 10 ∷ []) text_is ∙ append_assoc shown (13 ∷ []) (10 ∷ [])))
            (subst (λ (bytes : List ℕ). Rewrites AreEnds (shown ++ 13 ∷ 10 ∷ []) bytes) (sym out_is) both);
        half = λ other. absurd (omega (arith, other));
      }

  -- an end
  pub ended_end : (sign : ℕ) → is_end (sign ∷ []) ≡ true → IsEnded end (text ++ sign ∷ []) (out ++ end) sign
  ended_end sign one = record {
    rewritten = rewrites_more AreEnds text out (sign ∷ []) end ended.rewritten (inr (one, is));
    half = λ same. (text, out, ap (λ (b : ℕ). text ++ b ∷ []) same, refl, ended.rewritten);
  }

  -- any other byte
  pub ended_other : (sign : ℕ) → (sign ≡ 13 → ⊥) → IsEnded end (text ++ sign ∷ []) (out ++ sign ∷ []) sign
  ended_other sign other = record {
    rewritten = rewrites_same AreEnds text out (sign ∷ []) ended.rewritten;
    half = λ same. absurd (other same);
  }

pub ended_one : (sign : ℕ) → no_end sign ≡ false → is_end (sign ∷ []) ≡ true
ended_one sign h = by (nat_eq sign 10) (nat_eq sign 13) h
  where
    by : (x y : Bool) → not (x || y) ≡ false → (x && true || y && true || y && false) ≡ true
    by true y h = refl
    by false true h = refl
    by false false h = absurd (true≢false h)

pub no_return : (sign : ℕ) → no_end sign ≡ true → sign ≡ 13 → ⊥
no_return sign h is = true≢false (sym h ∙ ap no_end is)
