-- What one more call makes of the lines of an update, and of what is held of its tokens.
use Rattle.std.proofs.Common.{◌≡◌, ℕ, suc, zero, ◌+◌, ◌-◌, ◌<◌, ◌≤◌, Bool, true, false, ◌||◌, cond, List, [], ◌∷◌, ◌++◌, length, refl, sym, ◌∙◌, ap}
use Rattle.std.proofs.Common.{append_assoc, arith, get_or, set, true≢false, ◌⊎◌, inl, inr}
use Rattle.std.specs.Prelude.{Option, Some, None, is_some, slice_get, nat_eq, nat_lt}
use Rattle.std.specs.Option.{option_map, option_or}
use Rattle.std.specs.List.{list_any, cons_option}
use Rattle.std.proofs.lemmas.List.{append-nil, length_push}
use Rattle.std.proofs.lemmas.Bool.{lt-ltb, le-ltb}
use Rattle.std.proofs.lemmas.Option.{none-some, slice_get_cases}
use Rattle.std.proofs.Math.Bool.{or-false, or-true}
use Rattle.std.proofs.Math.Dec.{eqb-zero-suc, eqb-suc-zero, eqb-suc-suc}
use Rattle.svn_lists.proofs.Somewhere.{any_push}
use Rattle.svn_editor.specs.declared.call.Call.{Call}
use Rattle.svn_editor.specs.Calls.{Given, given_by, all_given, applies_text}
use Rattle.svn_editor.proofs.OneMore.{given_none, given_one}
use Rattle.svn_model.specs.Nodes.{WorkingCopy}
use Rattle.svn_audit.specs.declared.lines.UpdateLine.{UpdateLine}
use Rattle.svn_audit.specs.declared.lines.Opened.{Opened}
use Rattle.svn_audit.specs.declared.lines.Noted.{Noted}
use Rattle.svn_audit.specs.Lines.{begins, opened, opened_path, changes_props, changes, closed_line, line_at, lines_after}
use Rattle.svn_audit.specs.NotedLines.{line_of_node, new_node, with_text, with_props, node_of, is_edited, edited_after, IsNoted, KnowsEdits}

-- ---- lines

lines-more : (w : WorkingCopy) (before calls : List Call) (c : Call)
    → lines_after w before (calls ++ c ∷ []) ≡ lines_after w before calls ++ line_at w (before ++ calls) c
lines-more w before [] c = append-nil (line_at w before c) ∙ ap (λ b. line_at w b c) (sym (append-nil before))
lines-more w before (x ∷ calls) c =
    ap (λ ls. line_at w before x ++ ls) (lines-more w (before ++ x ∷ []) calls c)
    ∙ sym (append_assoc (line_at w before x) (lines_after w (before ++ x ∷ []) calls) (line_at w ((before ++ x ∷ []) ++ calls) c))
    ∙ ap (λ b. (line_at w before x ++ lines_after w (before ++ x ∷ []) calls) ++ line_at w b c) (append_assoc before (x ∷ []) calls)

-- ---- tokens

one_less : (t n : ℕ) → suc t - suc n ≡ t - n
one_less t n = omega arith

-- the calls of a token with one more; where it wasn't taken, those that begin with that one
later : List Call → Call → List Call → List Call
later [] c new = new
later (x ∷ since) c new = x ∷ (since ++ c ∷ [])

opened-more : (calls : List Call) (c : Call) (t : ℕ)
    → opened (calls ++ c ∷ []) t ≡ later (opened calls t) c (opened (c ∷ []) (t - length (all_given calls)))
unfolding later
opened-more [] c t = let same : t - 0 ≡ t = omega arith in ap (opened (c ∷ [])) (sym same)
opened-more (x ∷ calls) c zero = by (given_by x) (opened-more calls c zero)
  where
    by : (o : Option Given)
        → opened (calls ++ c ∷ []) zero ≡ later (opened calls zero) c (opened (c ∷ []) (zero - length (all_given calls)))
        → cond (is_some o) (x ∷ (calls ++ c ∷ [])) (opened (calls ++ c ∷ []) zero)
        ≡ later (cond (is_some o) (x ∷ calls) (opened calls zero)) c (opened (c ∷ []) (zero - length (cons_option o (all_given calls))))
    by None e = e
    by (Some g) e = refl
opened-more (x ∷ calls) c (suc t) = by (given_by x) (opened-more calls c t) (opened-more calls c (suc t))
  where
    by : (o : Option Given)
        → opened (calls ++ c ∷ []) t ≡ later (opened calls t) c (opened (c ∷ []) (t - length (all_given calls)))
        → opened (calls ++ c ∷ []) (suc t) ≡ later (opened calls (suc t)) c (opened (c ∷ []) (suc t - length (all_given calls)))
        → cond (is_some o) (opened (calls ++ c ∷ []) t) (opened (calls ++ c ∷ []) (suc t))
        ≡ later (cond (is_some o) (opened calls t) (opened calls (suc t))) c
        (opened (c ∷ []) (suc t - length (cons_option o (all_given calls))))
    by None e f = f
    by (Some g) e f = e ∙ ap (λ n. later (opened calls t) c (opened (c ∷ []) n)) (sym (one_less t (length (all_given calls))))

-- what a call makes of the node of token t
abbrev pub after : ℕ → Call → Opened → Opened
after t c n = record n { text = n.text || applies_text t c; props = n.props || changes_props t c }

node-later : (t : ℕ) (since : List Call) (c : Call) (new : List Call)
    → node_of t (later since c new) ≡ option_or (option_map (after t c) (node_of t since)) (node_of t new)
unfolding later
node-later t [] c new = refl
node-later t (x ∷ since) c new =
    ap (λ (b : Bool). Some (record { path = opened_path x; text = b; props = list_any (changes_props t) (since ++ c ∷ []) }))
    (any_push (applies_text t) since c)
    ∙ ap (λ (b : Bool). Some (record { path = opened_path x; text = list_any (applies_text t) since || applies_text t c; props = b }))
    (any_push (changes_props t) since c)

-- ---- what is noted

abbrev AreMore : List Opened → Call → List Opened → Type 0
AreMore old c new =
    (t : ℕ) → slice_get new t ≡ option_or (option_map (after t c) (slice_get old t)) (node_of t (opened (c ∷ []) (t - length old)))

noted-more : (w : WorkingCopy) (calls : List Call) (c : Call) (old new : Noted) → IsNoted w calls old
    → new.lines.items ≡ old.lines.items ++ line_at w calls c
    → length new.nodes.items ≡ length (all_given (calls ++ c ∷ []))
    → AreMore old.nodes.items c new.nodes.items
    → IsNoted w (calls ++ c ∷ []) new
noted-more w calls c old new was lines count nodes = record {
  lines = lines ∙ ap (λ ls. ls ++ line_at w calls c) was.lines ∙ sym (lines-more w [] calls c);
  count = count;
  nodes = λ t.
      nodes t
      ∙ ap (λ n. option_or (option_map (after t c) (slice_get old.nodes.items t)) (node_of t (opened (c ∷ []) (t - n)))) was.count
      ∙ ap (λ o. option_or (option_map (after t c) o) (node_of t (opened (c ∷ []) (t - length (all_given calls))))) (was.nodes t)
      ∙ sym (ap (node_of t) (opened-more calls c t) ∙ node-later t (opened calls t) c (opened (c ∷ []) (t - length (all_given calls))));
}

-- a call that neither gives a text nor changes properties
abbrev IsPlain : Call → Type 0
IsPlain c = (t : ℕ) → (applies_text t c ≡ false) × (changes_props t c ≡ false)

after_plain : (t : ℕ) (c : Call) → IsPlain c → (o : Option Opened) → option_map (after t c) o ≡ o
after_plain t c plain None = refl
after_plain t c plain (Some n) =
    ap (λ (b : Bool). Some (record n { text = n.text || b; props = n.props || changes_props t c })) (plain t).0
    ∙ ap (λ (b : Bool). Some (record n { text = n.text || false; props = n.props || b })) (plain t).1
    ∙ ap (λ (b : Bool). Some (record n { text = b; props = n.props || false })) (or-false n.text)
    ∙ ap (λ (b : Bool). Some (record n { props = b })) (or-false n.props)

-- ---- a call that takes no token

same_length : (xs ys : List Opened) (f : ℕ → Opened → Opened) → ((t : ℕ) → slice_get ys t ≡ option_map (f t) (slice_get xs t))
    → length ys ≡ length xs
same_length [] [] f h = refl
same_length [] (y ∷ ys) f h = absurd (none-some y (sym (h zero)))
same_length (x ∷ xs) [] f h = absurd (none-some (f zero x) (h zero))
same_length (x ∷ xs) (y ∷ ys) f h = ap suc (same_length xs ys (λ t. f (suc t)) (λ t. h (suc t)))

or_none : (o : Option Opened) → option_or o None ≡ o
or_none None = refl
or_none (Some n) = refl

not_taken : (c : Call) (t d : ℕ) → given_by c ≡ None → node_of t (opened (c ∷ []) d) ≡ None
not_taken c t zero none = ap (λ (o : Option Given). node_of t (cond (is_some o) (c ∷ []) [])) none
not_taken c t (suc d) none = ap (λ (o : Option Given). node_of t (cond (is_some o) [] [])) none

noted-still : (w : WorkingCopy) (calls : List Call) (c : Call) (old new : Noted) → IsNoted w calls old → given_by c ≡ None
    → new.lines.items ≡ old.lines.items ++ line_at w calls c
    → ((t : ℕ) → slice_get new.nodes.items t ≡ option_map (after t c) (slice_get old.nodes.items t))
    → IsNoted w (calls ++ c ∷ []) new
noted-still w calls c old new was none lines nodes =
    noted-more w calls c old new was lines
    (same_length old.nodes.items new.nodes.items (λ t. after t c) nodes ∙ was.count ∙ ap length (sym (given_none calls c none)))
    (λ t. nodes t ∙ sym (or_none (option_map (after t c) (slice_get old.nodes.items t)))
    ∙ ap (option_or (option_map (after t c) (slice_get old.nodes.items t))) (sym (not_taken c t (t - length old.nodes.items) none)))

-- a call that changes nothing that is held
pub noted-plain : (w : WorkingCopy) (calls : List Call) (c : Call) (old new : Noted) → IsNoted w calls old → given_by c ≡ None → IsPlain c
    → new.lines.items ≡ old.lines.items ++ line_at w calls c → new.nodes.items ≡ old.nodes.items → IsNoted w (calls ++ c ∷ []) new
noted-plain w calls c old new was none plain lines same =
    noted-still w calls c old new was none lines
    (λ t. ap (λ ns. slice_get ns t) same ∙ sym (after_plain t c plain (slice_get old.nodes.items t)))

-- a call that prints nothing either
pub noted-silent : (w : WorkingCopy) (calls : List Call) (c : Call) (old new : Noted) → IsNoted w calls old → given_by c ≡ None → IsPlain c
    → line_at w calls c ≡ [] → new.lines.items ≡ old.lines.items → new.nodes.items ≡ old.nodes.items → IsNoted w (calls ++ c ∷ []) new
noted-silent w calls c old new was none plain silent lines same =
    noted-plain w calls c old new was none plain
    (lines ∙ sym (append-nil old.lines.items) ∙ ap (λ ls. old.lines.items ++ ls) (sym silent)) same

-- a call that gives a text
pub noted-text : (w : WorkingCopy) (calls : List Call) (c : Call) (old new : Noted) → IsNoted w calls old → given_by c ≡ None → line_at w calls c ≡ []
    → ((t : ℕ) → changes_props t c ≡ false) → new.lines.items ≡ old.lines.items
    → ((t : ℕ) → slice_get new.nodes.items t ≡ option_map (with_text (applies_text t c)) (slice_get old.nodes.items t))
    → IsNoted w (calls ++ c ∷ []) new
noted-text w calls c old new was none silent plain lines nodes =
    noted-still w calls c old new was none
    (lines ∙ sym (append-nil old.lines.items) ∙ ap (λ ls. old.lines.items ++ ls) (sym silent))
    (λ t. nodes t ∙ alone t (slice_get old.nodes.items t))
  where
    alone : (t : ℕ) (o : Option Opened) → option_map (with_text (applies_text t c)) o ≡ option_map (after t c) o
    alone t None = refl
    alone t (Some n) =
        ap (λ (b : Bool). Some (record n { text = n.text || applies_text t c; props = b }))
        (sym (or-false n.props) ∙ ap (λ b. n.props || b) (sym (plain t)))

-- a call that changes properties
pub noted-props : (w : WorkingCopy) (calls : List Call) (c : Call) (old new : Noted) → IsNoted w calls old → given_by c ≡ None → line_at w calls c ≡ []
    → ((t : ℕ) → applies_text t c ≡ false) → new.lines.items ≡ old.lines.items
    → ((t : ℕ) → slice_get new.nodes.items t ≡ option_map (with_props (changes_props t c)) (slice_get old.nodes.items t))
    → IsNoted w (calls ++ c ∷ []) new
noted-props w calls c old new was none silent plain lines nodes =
    noted-still w calls c old new was none
    (lines ∙ sym (append-nil old.lines.items) ∙ ap (λ ls. old.lines.items ++ ls) (sym silent))
    (λ t. nodes t ∙ alone t (slice_get old.nodes.items t))
  where
    alone : (t : ℕ) (o : Option Opened) → option_map (with_props (changes_props t c)) o ≡ option_map (after t c) o
    alone t None = refl
    alone t (Some n) =
        ap (λ (b : Bool). Some (record n { text = b; props = n.props || changes_props t c }))
        (sym (or-false n.text) ∙ ap (λ b. n.text || b) (sym (plain t)))

-- ---- a call that takes a token

get_push : (xs : List Opened) (x : Opened) (t : ℕ) → slice_get (xs ++ x ∷ []) t ≡ option_or (slice_get xs t) (slice_get (x ∷ []) (t - length xs))
get_push [] x t = let same : t - 0 ≡ t = omega arith in ap (slice_get (x ∷ [])) (sym same)
get_push (y ∷ xs) x zero = refl
get_push (y ∷ xs) x (suc t) =
    get_push xs x t ∙ ap (λ n. option_or (slice_get xs t) (slice_get (x ∷ []) n)) (sym (one_less t (length xs)))

this_node : (c : Call) (t d : ℕ) → begins c ≡ true → node_of t (opened (c ∷ []) d) ≡ slice_get (new_node (opened_path c) ∷ []) d
this_node c t zero some = ap (λ (b : Bool). node_of t (cond b (c ∷ []) [])) some
this_node c t (suc d) some = ap (λ (b : Bool). node_of t (cond b [] [])) some

one_more : (calls : List Call) (c : Call) → begins c ≡ true → length (all_given (calls ++ c ∷ [])) ≡ length (all_given calls) + 1
one_more calls c some = by (given_by c) refl some
  where
    by : (o : Option Given) → given_by c ≡ o → is_some o ≡ true → length (all_given (calls ++ c ∷ [])) ≡ length (all_given calls) + 1
    by None e h = absurd (true≢false (sym h))
    by (Some g) e h = ap length (given_one calls c g e) ∙ length_push (all_given calls) g

noted-taken : (w : WorkingCopy) (calls : List Call) (c : Call) (old new : Noted) → IsNoted w calls old → begins c ≡ true → IsPlain c
    → new.lines.items ≡ old.lines.items ++ line_at w calls c
    → new.nodes.items ≡ old.nodes.items ++ new_node (opened_path c) ∷ []
    → IsNoted w (calls ++ c ∷ []) new
noted-taken w calls c old new was some plain lines nodes =
    noted-more w calls c old new was lines
    (ap length nodes ∙ length_push old.nodes.items (new_node (opened_path c)) ∙ ap (λ n. n + 1) was.count ∙ sym (one_more calls c some))
    (λ t. ap (λ ns. slice_get ns t) nodes ∙ get_push old.nodes.items (new_node (opened_path c)) t
    ∙ ap (λ o. option_or o (slice_get (new_node (opened_path c) ∷ []) (t - length old.nodes.items)))
    (sym (after_plain t c plain (slice_get old.nodes.items t)))
    ∙ ap (option_or (option_map (after t c) (slice_get old.nodes.items t))) (sym (this_node c t (t - length old.nodes.items) some)))

pub noted-opened : (w : WorkingCopy) (calls : List Call) (c : Call) (old new : Noted) → IsNoted w calls old → begins c ≡ true → IsPlain c
    → line_at w calls c ≡ [] → new.lines.items ≡ old.lines.items
    → new.nodes.items ≡ old.nodes.items ++ new_node (opened_path c) ∷ []
    → IsNoted w (calls ++ c ∷ []) new
noted-opened w calls c old new was some plain silent lines nodes =
    noted-taken w calls c old new was some plain
    (lines ∙ sym (append-nil old.lines.items) ∙ ap (λ ls. old.lines.items ++ ls) (sym silent)) nodes

pub noted-added : (w : WorkingCopy) (calls : List Call) (c : Call) (old new : Noted) → IsNoted w calls old → begins c ≡ true → IsPlain c
    → (lines : List UpdateLine) → line_at w calls c ≡ lines → new.lines.items ≡ old.lines.items ++ lines
    → new.nodes.items ≡ old.nodes.items ++ new_node (opened_path c) ∷ []
    → IsNoted w (calls ++ c ∷ []) new
noted-added w calls c old new was some plain ls here lines nodes =
    noted-taken w calls c old new was some plain (lines ∙ ap (λ ms. old.lines.items ++ ms) (sym here)) nodes

-- the line of a node's close
node_line : (w : WorkingCopy) (t : ℕ) (since : List Call) → line_of_node w (is_edited since) (node_of t since) ≡ closed_line w t since
node_line w t [] = refl
node_line w t (c ∷ since) = refl

pub noted-closed : (w : WorkingCopy) (calls : List Call) (c : Call) (old new : Noted) (t : ℕ) → IsNoted w calls old → KnowsEdits calls old.edited
    → given_by c ≡ None → IsPlain c
    → line_at w calls c ≡ closed_line w t (opened calls t)
    → new.lines.items ≡ old.lines.items ++ line_of_node w (nat_lt t old.edited) (slice_get old.nodes.items t) → new.nodes.items ≡ old.nodes.items
    → IsNoted w (calls ++ c ∷ []) new
noted-closed w calls c old new t was edits none plain here lines same =
    noted-plain w calls c old new was none plain
    (lines ∙ ap (λ ms. old.lines.items ++ ms)
    (ap (λ b. line_of_node w b (slice_get old.nodes.items t)) (edits t) ∙ ap (line_of_node w (is_edited (opened calls t))) (was.nodes t)
    ∙ node_line w t (opened calls t) ∙ sym here)) same

-- ---- what is edited

in_list : (xs : List Opened) (t : ℕ) → nat_lt t (length xs) ≡ is_some (slice_get xs t)
in_list xs t = by (slice_get_cases xs t).1
  where
    by : ((x : Opened) × (t < length xs) × (slice_get xs t ≡ Some x) × (get_or xs t x ≡ x)) ⊎ ((length xs ≤ t) × (slice_get xs t ≡ None))
        → nat_lt t (length xs) ≡ is_some (slice_get xs t)
    by (inl h) = lt-ltb t (length xs) h.1 ∙ sym (ap is_some h.2)
    by (inr h) = le-ltb t (length xs) h.0 ∙ sym (ap is_some h.1)

unedited : (c : Call) (d : ℕ) → is_edited (opened (c ∷ []) d) ≡ false
unedited c zero = by (begins c)
  where
    by : (b : Bool) → is_edited (cond b (c ∷ []) []) ≡ false
    by true = refl
    by false = refl
unedited c (suc d) = by (begins c)
  where
    by : (b : Bool) → is_edited (cond b [] []) ≡ false
    by true = refl
    by false = refl

pub edits-more : (w : WorkingCopy) (calls : List Call) (c : Call) (old : Noted) → IsNoted w calls old → KnowsEdits calls old.edited
    → KnowsEdits (calls ++ c ∷ []) (edited_after old c)
unfolding later
edits-more w calls c old was edits t =
    by (opened calls t) (changes c) refl (was.nodes t) (edits t) ∙ ap is_edited (sym (opened-more calls c t))
  where
    new : List Call
    new = opened (c ∷ []) (t - length (all_given calls))

    by : (since : List Call) (b : Bool) → changes c ≡ b → slice_get old.nodes.items t ≡ node_of t since → nat_lt t old.edited ≡ is_edited since
        → nat_lt t (cond b (length old.nodes.items) old.edited) ≡ is_edited (later since c new)
    by [] true e n m = in_list old.nodes.items t ∙ ap is_some n ∙ sym (unedited c (t - length (all_given calls)))
    by [] false e n m = m ∙ sym (unedited c (t - length (all_given calls)))
    by (x ∷ since) true e n m =
        in_list old.nodes.items t ∙ ap is_some n ∙ sym (any_push changes since c ∙ ap (λ b. list_any changes since || b) e ∙ or-true (list_any changes since))
    by (x ∷ since) false e n m =
        m ∙ sym (any_push changes since c ∙ ap (λ b. list_any changes since || b) e ∙ or-false (list_any changes since))

-- ---- one node marked

module _ (mark : Bool → Opened → Opened) (unmarked : (n : Opened) → mark false n ≡ n) where
  kept : (o : Option Opened) → o ≡ option_map (mark false) o
  kept None = refl
  kept (Some n) = ap Some (sym (unmarked n))

  marked_here : (ns : List Opened) (i : ℕ) (n m : Opened) → i < length ns → n ≡ get_or ns i n → m ≡ mark true n → (t : ℕ)
      → slice_get (set ns i m) t ≡ option_map (mark (nat_eq i t)) (slice_get ns t)
  marked_here [] i n m h e q t = absurd (omega arith)
  marked_here (x ∷ ns) zero n m h e q zero = ap Some (q ∙ ap (mark true) e)
  marked_here (x ∷ ns) zero n m h e q (suc t) =
      kept (slice_get ns t) ∙ ap (λ b. option_map (mark b) (slice_get ns t)) (sym (eqb-zero-suc t))
  marked_here (x ∷ ns) (suc i) n m h e q zero = kept (Some x) ∙ ap (λ b. option_map (mark b) (Some x)) (sym (eqb-suc-zero i))
  marked_here (x ∷ ns) (suc i) n m h e q (suc t) =
      marked_here ns i n m (omega arith) e q t ∙ ap (λ b. option_map (mark b) (slice_get ns t)) (sym (eqb-suc-suc i t))

  marked_past : (ns : List Opened) (i : ℕ) → length ns ≤ i → (t : ℕ) → slice_get ns t ≡ option_map (mark (nat_eq i t)) (slice_get ns t)
  marked_past [] i h t = refl
  marked_past (x ∷ ns) zero h t = absurd (omega arith)
  marked_past (x ∷ ns) (suc i) h zero = kept (Some x) ∙ ap (λ b. option_map (mark b) (Some x)) (sym (eqb-suc-zero i))
  marked_past (x ∷ ns) (suc i) h (suc t) =
      marked_past ns i (omega arith) t ∙ ap (λ b. option_map (mark b) (slice_get ns t)) (sym (eqb-suc-suc i t))

no_text : (n : Opened) → with_text false n ≡ n
no_text n = ap (λ (b : Bool). record n { text = b }) (or-false n.text)

no_props : (n : Opened) → with_props false n ≡ n
no_props n = ap (λ (b : Bool). record n { props = b }) (or-false n.props)

pub text-set : (ns : List Opened) (i j : ℕ) (n : Opened) → j ≡ i → j < length ns → n ≡ get_or ns j n → (t : ℕ)
    → slice_get (set ns j (record n { text = true })) t ≡ option_map (with_text (nat_eq i t)) (slice_get ns t)
text-set ns i j n same h e t =
    marked_here with_text no_text ns j n (record n { text = true }) h e (ap (λ (b : Bool). record n { text = b }) (sym (or-true n.text))) t
    ∙ ap (λ k. option_map (with_text (nat_eq k t)) (slice_get ns t)) same

pub text-past : (ns : List Opened) (i : ℕ) → length ns ≤ i → (t : ℕ) → slice_get ns t ≡ option_map (with_text (nat_eq i t)) (slice_get ns t)
text-past = marked_past with_text no_text

pub props-set : (ns : List Opened) (i j : ℕ) (n : Opened) → j ≡ i → j < length ns → n ≡ get_or ns j n → (t : ℕ)
    → slice_get (set ns j (record n { props = true })) t ≡ option_map (with_props (nat_eq i t)) (slice_get ns t)
props-set ns i j n same h e t =
    marked_here with_props no_props ns j n (record n { props = true }) h e (ap (λ (b : Bool). record n { props = b }) (sym (or-true n.props))) t
    ∙ ap (λ k. option_map (with_props (nat_eq k t)) (slice_get ns t)) same

pub props-past : (ns : List Opened) (i : ℕ) → length ns ≤ i → (t : ℕ) → slice_get ns t ≡ option_map (with_props (nat_eq i t)) (slice_get ns t)
props-past = marked_past with_props no_props
