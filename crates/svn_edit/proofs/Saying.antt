-- What is said, read note by note.
use Rattle.std.proofs.Common.{◌≡◌, ℕ, ◌<◌, ◌≤◌, true, arith, length, get_or, List, [], ◌∷◌, ◌++◌, map, refl, sym, ◌∙◌, ap}
use Rattle.std.proofs.Common.{Bool, false, not, ◌||◌, subst, true≢false, append-nil, length-append}
use Rattle.std.proofs.lemmas.List.{get_or_append_left, get_or_push}
use Rattle.std.proofs.lemmas.List.Elements.{filter_map-append}
use Rattle.std.specs.Prelude.{Option, Some, None, is_some, MatchOption, filter_map}
use Rattle.std.specs.Option.{option_copied}
use Rattle.std.specs.Borrow.{Bor}
use Rattle.std.proofs.lemmas.Option.{none-some, same_Some}
use Rattle.std.specs.List.{list_any, flat_map, cons_option}
use Rattle.svn_types.specs.Pairs.{with_value}
use Rattle.svn_types.specs.Props.{with_changes}
use Rattle.svn_types.specs.declared.kind.Kind.TheVariants.{File, Directory}
use Rattle.svn_editor.specs.declared.call.Call.{Call}
use Rattle.svn_editor.specs.declared.call.Call.TheVariants.{ChangeDirProp, ChangeFileProp, ApplyText}
use Rattle.law_copy.proofs.OnePath.{noted}
use Rattle.svn_editor.specs.Steps.{Action, Change, Text}
use Rattle.svn_edit.specs.declared.baton.Note.{Note}
use Rattle.svn_edit.specs.declared.baton.NotedText.{NotedText}
use Rattle.svn_edit.specs.declared.baton.Note.TheVariants.{Set, Remove, Text as NewText}
use Rattle.svn_model.specs.Effects.{change_in, text_in}
use Rattle.svn_model.specs.Said.{says}
use Rattle.svn_nodes.specs.NodeTests.{first_of}
use Rattle.svn_edit.specs.Noted.{is_change, note_of_value, note_of, strings_of}
use Rattle.svn_edit.specs.Applying.{IsTextAt, NotesText, Properties, StillSaid}

pub record AfterSet (before now : Properties) (said : List Action) (notes : List Note) (strings : List (List ℕ)) : Type 0 where
  pub name : List ℕ
  pub value : List ℕ
  pub rest : List (List ℕ)
  pub split : strings ≡ name ∷ value ∷ rest
  pub still : StillSaid before (with_value now name (Some value)) said notes rest

pub record AfterRemove (before now : Properties) (said : List Action) (notes : List Note) (strings : List (List ℕ)) : Type 0 where
  pub name : List ℕ
  pub rest : List (List ℕ)
  pub split : strings ≡ name ∷ rest
  pub still : StillSaid before (with_value now name None) said notes rest

pub record AfterText (before now : Properties) (said : List Action) (notes : List Note) (strings : List (List ℕ)) : Type 0 where
  pub text : List ℕ
  pub rest : List (List ℕ)
  pub split : strings ≡ text ∷ rest
  pub still : StillSaid before now said notes rest

rest_of : (n m : Note) (xs ys : List Note) → n ∷ xs ≡ m ∷ ys → xs ≡ ys
rest_of n m xs ys e = cc

module _ (before now : Properties) (said : List Action) (n : Note) (notes : List Note) (strings : List (List ℕ)) where
  pub after_set : StillSaid before now said (n ∷ notes) strings → n ≡ Set → AfterSet before now said notes strings
  after_set s is = by s.left s.notes_are s.strings_are s.props_are
    where
      by : (left : List Action) → n ∷ notes ≡ map note_of left → strings ≡ flat_map strings_of left
          → with_changes before (filter_map change_in said) ≡ with_changes now (filter_map change_in left)
          → AfterSet before now said notes strings
      by (Change kind (name, Some v) ∷ left) h k p = record {
        name = name;
        value = v;
        rest = flat_map strings_of left;
        split = k;
        still = record { left = left; notes_are = rest_of n Set notes (map note_of left) h; strings_are = refl; props_are = p };
      }
      by _ h k p = cc

  pub after_remove : StillSaid before now said (n ∷ notes) strings → n ≡ Remove → AfterRemove before now said notes strings
  after_remove s is = by s.left s.notes_are s.strings_are s.props_are
    where
      by : (left : List Action) → n ∷ notes ≡ map note_of left → strings ≡ flat_map strings_of left
          → with_changes before (filter_map change_in said) ≡ with_changes now (filter_map change_in left)
          → AfterRemove before now said notes strings
      by (Change kind (name, None) ∷ left) h k p = record {
        name = name;
        rest = flat_map strings_of left;
        split = k;
        still = record { left = left; notes_are = rest_of n Remove notes (map note_of left) h; strings_are = refl; props_are = p };
      }
      by _ h k p = cc

  pub after_text : StillSaid before now said (n ∷ notes) strings → n ≡ NewText → AfterText before now said notes strings
  after_text s is = by s.left s.notes_are s.strings_are s.props_are
    where
      -- what isn't of a property has one string, and changes none
      one_string : (a : Action) → note_of a ≡ NewText → (text : List ℕ) × (strings_of a ≡ text ∷ []) × (change_in a ≡ None)
      one_string (Change kind (name, None)) e = cc
      one_string (Change kind (name, Some v)) e = cc
      one_string (Text sum text) e = (text, refl, refl)
      one_string _ e = ([], refl, refl)

      by : (left : List Action) → n ∷ notes ≡ map note_of left → strings ≡ flat_map strings_of left
          → with_changes before (filter_map change_in said) ≡ with_changes now (filter_map change_in left)
          → AfterText before now said notes strings
      by [] h k p = cc
      by (a ∷ left) h k p =
          let heads : n ≡ note_of a = cc in
          let one = one_string a (sym heads ∙ is) in
          record {
            text = one.0;
            rest = flat_map strings_of left;
            split = k ∙ ap (λ (l : List (List ℕ)). l ++ flat_map strings_of left) one.1;
            still = record {
              left = left;
              notes_are = rest_of n (note_of a) notes (map note_of left) h;
              strings_are = refl;
              props_are = p ∙ ap (λ o. with_changes now (cons_option o (filter_map change_in left))) one.2;
            };
          }

-- ---- with what was read of the strings

pub taken : (r : Option (Bor (List ℕ))) (s t : List (List ℕ)) (n : List ℕ) → MatchOption r ((s ≡ []) × (t ≡ [])) (λ x. s ≡ x.now ∷ t)
    → option_copied r ≡ Some n → s ≡ n ∷ t
taken None s t n h e = absurd (none e)
  where
    none : None ≡ Some n → ⊥
    none q = cc
taken (Some x) s t n h e = h ∙ ap (λ (y : List ℕ). y ∷ t) (same_Some x.now n e)

-- whatever came of it, the first goes
pub passed : (r : Option (Bor (List ℕ))) (s t : List (List ℕ)) (n : List ℕ) (rest : List (List ℕ))
    → MatchOption r ((s ≡ []) × (t ≡ [])) (λ x. s ≡ x.now ∷ t) → s ≡ n ∷ rest → rest ≡ t
passed None s t n rest h e = absurd (none (sym h.0 ∙ e))
  where
    none : [] ≡ n ∷ rest → ⊥
    none q = cc
passed (Some x) s t n rest h e = same (sym e ∙ h)
  where
    same : n ∷ rest ≡ x.now ∷ t → rest ≡ t
    same q = cc

module _ (before now now2 : Properties) (said : List Action) (notes : List Note) (strings : List (List ℕ)) where
  pub set_done : (a : AfterSet before now said notes strings) (n v : List ℕ) (s1 s2 : List (List ℕ)) → strings ≡ n ∷ s1 → s1 ≡ v ∷ s2
      → now2 ≡ with_value now n (Some v) → StillSaid before now2 said notes s2
  set_done a n v s1 s2 e1 e2 p =
      let whole : a.name ∷ a.value ∷ a.rest ≡ n ∷ v ∷ s2 = sym a.split ∙ e1 ∙ ap (λ (l : List (List ℕ)). n ∷ l) e2 in
      let en : a.name ≡ n = cc in
      let ev : a.value ≡ v = cc in
      let er : a.rest ≡ s2 = cc in
      record {
        left = a.still.left;
        notes_are = a.still.notes_are;
        strings_are = sym er ∙ a.still.strings_are;
        props_are = a.still.props_are ∙ (λ i. with_changes (with_value now (en i) (Some (ev i))) (filter_map change_in a.still.left))
            ∙ ap (λ (x : Properties). with_changes x (filter_map change_in a.still.left)) (sym p);
      }

  pub remove_done : (a : AfterRemove before now said notes strings) (n : List ℕ) (s1 : List (List ℕ)) → strings ≡ n ∷ s1
      → now2 ≡ with_value now n None → StillSaid before now2 said notes s1
  remove_done a n s1 e1 p =
      let whole : a.name ∷ a.rest ≡ n ∷ s1 = sym a.split ∙ e1 in
      let en : a.name ≡ n = cc in
      let er : a.rest ≡ s1 = cc in
      record {
        left = a.still.left;
        notes_are = a.still.notes_are;
        strings_are = sym er ∙ a.still.strings_are;
        props_are = a.still.props_are ∙ (λ i. with_changes (with_value now (en i) None) (filter_map change_in a.still.left))
            ∙ ap (λ (x : Properties). with_changes x (filter_map change_in a.still.left)) (sym p);
      }

-- at the end nothing is left
pub said_done : (before now : Properties) (said : List Action) (notes : List Note) (strings : List (List ℕ))
    → StillSaid before now said notes strings → notes ≡ [] → now ≡ with_changes before (filter_map change_in said)
said_done before now said notes strings s none = by s.left (sym none ∙ s.notes_are) s.props_are
  where
    by : (left : List Action) → [] ≡ map note_of left → with_changes before (filter_map change_in said) ≡ with_changes now
        (filter_map change_in left) → now ≡ with_changes before (filter_map change_in said)
    by [] e p = sym p
    by (a ∷ left) e p = cc

-- where no note is of a property, nothing is said of one
pub no_change_said : (said : List Action) → list_any is_change (map note_of said) ≡ false → filter_map change_in said ≡ []
no_change_said [] h = refl
no_change_said (Change k x ∷ said) h = absurd (true≢false (sym (ap (λ b. b || list_any is_change (map note_of said)) (of_value x.1)) ∙ h))
  where
    of_value : (v : Option (List ℕ)) → is_change (note_of_value v) ≡ true
    of_value None = refl
    of_value (Some v) = refl
no_change_said (_ ∷ said) h = no_change_said said h

-- ---- the text

-- the string at the place
pub text_read : (t : NotedText) (strings : List (List ℕ)) (text : Option (List ℕ)) (r : Option (Bor (List ℕ))) → IsTextAt (Some t) strings text
    → MatchOption r (length strings ≤ t.place) (λ s. (t.place < length strings) × (s.now ≡ get_or strings t.place [])) → option_copied r ≡ text
text_read t strings text None is h = let within : t.place < length strings = is.0 in absurd (omega arith)
text_read t strings text (Some s) is h = ap Some h.1 ∙ sym is.1

-- it stays where it is when strings are pushed
kept_place : (t : Option NotedText) (strings more : List (List ℕ)) (text : Option (List ℕ)) → IsTextAt t strings text
    → IsTextAt t (strings ++ more) text
kept_place None strings more text is = is
kept_place (Some t) strings more text is =
    let within : t.place < length strings = is.0 in
    (omega (arith, length-append strings more), is.1 ∙ ap Some (sym (get_or_append_left strings more [] t.place within)))

texts_quiet : (said : List Action) (a : Action) → text_in a ≡ None → filter_map text_in (said ++ a ∷ []) ≡ filter_map text_in said
texts_quiet said a h = filter_map-append text_in said (a ∷ []) ∙ ap (λ (o : Option (List ℕ)). filter_map text_in said ++ cons_option o []) h
    ∙ append-nil (filter_map text_in said)

first_none : (texts : List (List ℕ)) → first_of texts ≡ None → texts ≡ []
first_none [] h = refl
first_none (x ∷ texts) h = cc

first_some : (texts more : List (List ℕ)) (x : List ℕ) → first_of texts ≡ Some x → first_of (texts ++ more) ≡ Some x
first_some [] more x h = cc
first_some (y ∷ texts) more x h = h

-- nothing that was said changes where it is, but a first text
text_stays : (t t2 : Option NotedText) (strings more : List (List ℕ)) (before after : List (List ℕ)) → after ≡ before → t2 ≡ t
    → IsTextAt t strings (first_of before) → IsTextAt t2 (strings ++ more) (first_of after)
text_stays t t2 strings more before after same kept is =
    subst (λ (o : Option NotedText). IsTextAt o (strings ++ more) (first_of after)) (sym kept)
    (subst (λ (l : List (List ℕ)). IsTextAt t (strings ++ more) (first_of l)) (sym same) (kept_place t strings more (first_of before) is))

-- one more note
pub text_more : (t t2 : Option NotedText) (strings : List (List ℕ)) (said : List Action) (a : Action) → says a ≡ true
    → IsTextAt t strings (first_of (filter_map text_in said)) → NotesText (note_of a) (length strings) t t2
    → IsTextAt t2 (strings ++ strings_of a) (first_of (filter_map text_in (said ++ a ∷ [])))
text_more t t2 strings said (Change k (name, None)) h is new =
    text_stays t t2 strings (name ∷ []) (filter_map text_in said) (filter_map text_in (said ++ Change k (name, None) ∷ []))
    (texts_quiet said (Change k (name, None)) refl) new is
text_more t t2 strings said (Change k (name, Some v)) h is new =
    text_stays t t2 strings (name ∷ v ∷ []) (filter_map text_in said) (filter_map text_in (said ++ Change k (name, Some v) ∷ []))
    (texts_quiet said (Change k (name, Some v)) refl) new is
text_more None None strings said (Text sum x) h is new = absurd new
text_more None (Some t2) strings said (Text sum x) h is new =
    let texts : filter_map text_in (said ++ Text sum x ∷ []) ≡ x ∷ [] = filter_map-append text_in said (Text sum x ∷ [])
    ∙ ap (λ (l : List (List ℕ)). l ++ x ∷ []) (first_none (filter_map text_in said) is) in
    let place : t2.place ≡ length strings = new in
    (omega (arith, length-append strings (x ∷ [])), ap first_of texts ∙ ap Some (sym (get_or_push strings x [] t2.place (sym place))))
text_more (Some t) t2 strings said (Text sum x) h is new =
    let first : first_of (filter_map text_in (said ++ Text sum x ∷ [])) ≡ first_of (filter_map text_in said) =
    ap first_of (filter_map-append text_in said (Text sum x ∷ [])) ∙ first_some (filter_map text_in said) (x ∷ [])
    (get_or strings t.place []) is.1 ∙ sym is.1 in
    subst (λ (o : Option (List ℕ)). IsTextAt t2 (strings ++ x ∷ []) o) (sym first)
    (subst (λ (o : Option NotedText). IsTextAt o (strings ++ x ∷ []) (first_of (filter_map text_in said))) (sym new)
    (kept_place (Some t) strings (x ∷ []) (first_of (filter_map text_in said)) is))
text_more t t2 strings said _ h is new = absurd (true≢false (sym h))

-- the first text is noted, and no later one
pub first_noted : (place : ℕ) (b : Bool) (old : Option NotedText) (t : NotedText) → is_some old ≡ not b → b ≡ true → t.place ≡ place
    → NotesText NewText place old (Some t)
first_noted place b None t is none at = at
first_noted place b (Some o) t is none at = absurd (true≢false (is ∙ ap not none))

pub later_passed : (place : ℕ) (b : Bool) (old : Option NotedText) → is_some old ≡ not b → b ≡ false
    → NotesText NewText place old old
later_passed place b None is some = absurd (true≢false (sym (ap not some) ∙ sym is))
later_passed place b (Some o) is some = refl

-- ---- the calls that say something

pub noted_says : (c : Call) (m : ℕ) (a : Action) → noted c ≡ Some (m, a) → says a ≡ true
noted_says (ChangeDirProp token name value) m a h = ap (λ (x : ℕ × Action). says x.1)
    (sym (same_Some (token, Change Directory (name, value)) (m, a) h))
noted_says (ChangeFileProp token name value) m a h = ap (λ (x : ℕ × Action). says x.1)
    (sym (same_Some (token, Change File (name, value)) (m, a) h))
noted_says (ApplyText token base_md5 text) m a h = ap (λ (x : ℕ × Action). says x.1) (sym (same_Some (token, Text base_md5 text) (m, a) h))
noted_says _ m a h = absurd (none-some (m, a) h)
