-- The numbers of opened paths, and the calls of steps that are at one path.
use Rattle.std.proofs.Common.{◌≡◌, ℕ, zero, suc, Bool, true, false, ◌||◌, List, [], ◌∷◌, ◌++◌, length, refl, sym, ◌∙◌, ap, true≢false}
use Rattle.std.proofs.Common.{append_assoc, append-nil}
use Rattle.std.specs.Prelude.{cond, map}
use Rattle.std.specs.List.{list_any}
use Rattle.std.proofs.lemmas.List.Folds.{list_any-append}
use Rattle.svn_types.specs.Names.{Path}
use Rattle.svn_types.specs.Paths.{path_eq, parent}
use Rattle.svn_types.specs.declared.kind.Kind.TheVariants.{File, Directory}
use Rattle.svn_types.proofs.PathLemmas.{path_eq-same}
use Rattle.svn_editor.specs.declared.call.Call.{Call}
use Rattle.svn_editor.specs.Steps.{Action, Delete, Open, Add, Change, Text, Close, Step, steps_at}
use Rattle.svn_model.specs.Drive.{token_of, call_of, opened_after, numbered}
use Rattle.svn_model.specs.TreeCalls.{call_at, calls_at}
use Rattle.law_drive.proofs.Courses.{is_entry, is_inner, AllOf}

-- the calls of some actions, and then of some others
pub calls_at-append : (p : Path) (parent own : ℕ) (xs ys : List Action)
    → calls_at p parent own (xs ++ ys) ≡ calls_at p parent own xs ++ calls_at p parent own ys
calls_at-append p parent own [] ys = refl
calls_at-append p parent own (x ∷ xs) ys = ap (λ (l : List Call). call_at p parent own x ∷ l) (calls_at-append p parent own xs ys)

-- ---- the paths that are opened

-- the paths that the steps open, in order
abbrev pub entered : List Step → List Path
entered [] = []
entered (s ∷ steps) = opened_after [] s.path s.action ++ entered steps

abbrev pub is_opened : List Path → Path → Bool
is_opened opened p = list_any (path_eq p) opened

pub entered-append : (xs ys : List Step) → entered (xs ++ ys) ≡ entered xs ++ entered ys
entered-append [] ys = refl
entered-append (x ∷ xs) ys =
    ap (λ l. opened_after [] x.path x.action ++ l) (entered-append xs ys)
    ∙ sym (append_assoc (opened_after [] x.path x.action) (entered xs) (entered ys))

-- the list of opened paths grows at its end
pub opened_more : (opened : List Path) (p : Path) (a : Action) → opened_after opened p a ≡ opened ++ opened_after [] p a
opened_more opened p (Delete r) = sym (append-nil opened)
opened_more opened p (Open k r) = refl
opened_more opened p (Add k) = refl
opened_more opened p (Change k x) = sym (append-nil opened)
opened_more opened p (Text s t) = sym (append-nil opened)
opened_more opened p (Close k x) = sym (append-nil opened)

-- the calls of some steps, and then of some others
pub numbered-append : (xs ys : List Step) (opened : List Path)
    → numbered opened (xs ++ ys) ≡ numbered opened xs ++ numbered (opened ++ entered xs) ys
numbered-append [] ys opened = ap (λ o. numbered o ys) (sym (append-nil opened))
numbered-append (x ∷ xs) ys opened =
    ap (λ (l : List Call). call_of opened x.path x.action ∷ l)
    (numbered-append xs ys (opened_after opened x.path x.action)
    ∙ ap (λ o. numbered (opened_after opened x.path x.action) xs ++ numbered o ys)
    (ap (λ o. o ++ entered xs) (opened_more opened x.path x.action) ∙ append_assoc opened (opened_after [] x.path x.action) (entered xs)))

-- ---- tokens

-- a path that is opened now gets the next number
pub token_first : (opened : List Path) (p : Path) (more : List Path) → is_opened opened p ≡ false
    → token_of (opened ++ p ∷ more) p ≡ length opened
token_first [] p more h = ap (λ b. cond b 0 (suc (token_of more p))) (path_eq-same p)
token_first (o ∷ opened) p more h = by (path_eq p o) h (token_first opened p more)
  where
    by : (b : Bool) → (b || is_opened opened p) ≡ false → (is_opened opened p ≡ false → token_of (opened ++ p ∷ more) p ≡ length opened)
        → cond b 0 (suc (token_of (opened ++ p ∷ more) p)) ≡ suc (length opened)
    by true e ih = absurd (true≢false e)
    by false e ih = ap suc (ih e)

-- and keeps it
pub token_stays : (opened : List Path) (p : Path) (more : List Path) → is_opened opened p ≡ true
    → token_of (opened ++ more) p ≡ token_of opened p
token_stays [] p more h = absurd (true≢false (sym h))
token_stays (o ∷ opened) p more h = by (path_eq p o) h (token_stays opened p more)
  where
    by : (b : Bool) → (b || is_opened opened p) ≡ true → (is_opened opened p ≡ true → token_of (opened ++ more) p ≡ token_of opened p)
        → cond b 0 (suc (token_of (opened ++ more) p)) ≡ cond b 0 (suc (token_of opened p))
    by true e ih = refl
    by false e ih = ap suc (ih e)

pub opened_last : (opened : List Path) (p : Path) → is_opened (opened ++ p ∷ []) p ≡ true
opened_last [] p = ap (λ b. b || false) (path_eq-same p)
opened_last (o ∷ opened) p = by (path_eq p o) (opened_last opened p)
  where
    by : (b : Bool) → is_opened (opened ++ p ∷ []) p ≡ true → (b || is_opened (opened ++ p ∷ []) p) ≡ true
    by true e = refl
    by false e = e

pub opened_stays : (opened : List Path) (p : Path) (more : List Path) → is_opened opened p ≡ true → is_opened (opened ++ more) p ≡ true
opened_stays opened p more h = list_any-append (path_eq p) opened more ∙ ap (λ b. b || is_opened more p) h

-- ---- actions inside a node

-- they open nothing
pub inner_opens : (opened : List Path) (p : Path) (a : Action) → is_inner a ≡ true → opened_after opened p a ≡ opened
inner_opens opened p (Change k c) e = refl
inner_opens opened p (Text s t) e = refl
inner_opens opened p (Close k c) e = refl
inner_opens opened p a e = absurd (true≢false (sym e))

-- and speak of their own path alone
inner_call : (opened : List Path) (p : Path) (parent own : ℕ) (a : Action) → token_of opened p ≡ own → is_inner a ≡ true
    → call_of opened p a ≡ call_at p parent own a
inner_call opened p parent own (Change Directory c) t e = ap (λ n. call_at p parent n (Change Directory c)) t
inner_call opened p parent own (Change File c) t e = ap (λ n. call_at p parent n (Change File c)) t
inner_call opened p parent own (Text s x) t e = ap (λ n. call_at p parent n (Text s x)) t
inner_call opened p parent own (Close Directory c) t e = ap (λ n. call_at p parent n (Close Directory c)) t
inner_call opened p parent own (Close File c) t e = ap (λ n. call_at p parent n (Close File c)) t
inner_call opened p parent own a t e = absurd (true≢false (sym e))

pub inner_entered : (p : Path) (acts : List Action) → AllOf is_inner acts → entered (steps_at p acts) ≡ []
inner_entered p [] h = refl
inner_entered p (a ∷ acts) h = ap (λ l. l ++ entered (steps_at p acts)) (inner_opens [] p a h.0) ∙ inner_entered p acts h.1

pub inner_calls : (opened : List Path) (p : Path) (parent own : ℕ) (acts : List Action) → token_of opened p ≡ own → AllOf is_inner acts
    → numbered opened (steps_at p acts) ≡ calls_at p parent own acts
inner_calls opened p parent own [] t h = refl
inner_calls opened p parent own (a ∷ acts) t h =
    λ i. inner_call opened p parent own a t h.0 i
    ∷ (ap (λ o. numbered o (steps_at p acts)) (inner_opens opened p a h.0) ∙ inner_calls opened p parent own acts t h.1) i

-- ---- an entry

pub entry_opens : (opened : List Path) (p : Path) (a : Action) → is_entry a ≡ true → opened_after opened p a ≡ opened ++ p ∷ []
entry_opens opened p (Open k r) e = refl
entry_opens opened p (Add k) e = refl
entry_opens opened p a e = absurd (true≢false (sym e))

pub entry_call : (opened : List Path) (p : Path) (a : Action) → is_entry a ≡ true
    → call_of opened p a ≡ call_at p (token_of opened (parent p)) (length opened) a
entry_call opened p (Open Directory r) e = refl
entry_call opened p (Open File r) e = refl
entry_call opened p (Add Directory) e = refl
entry_call opened p (Add File) e = refl
entry_call opened p a e = absurd (true≢false (sym e))

-- ---- what is done at a path: nothing, or an entry and what is inside

-- in front, after and late; whether there is something below, and how many tokens are given
pub data Shape : List Action → List Action → List Action → Bool → ℕ → Type 0 where
  bare : Shape [] [] [] false 0
  entry : (a : Action) (xs ys zs : List Action) (b : Bool) → is_entry a ≡ true → AllOf is_inner xs → AllOf is_inner ys → AllOf is_inner zs
      → Shape (a ∷ xs) ys zs b 1

-- a delete, or nothing
pub data Gone : List Action → Type 0 where
  none : Gone []
  gone : (r : ℕ) → Gone (Delete r ∷ [])

-- the path itself, where a token is given to it
abbrev pub own_list : ℕ → Path → List Path
own_list zero p = []
own_list (suc n) p = p ∷ own_list n p

pub gone_first : (opened : List Path) (p : Path) (g : List Action) (rest : List Step) → Gone g
    → numbered opened (steps_at p g ++ rest) ≡ map (call_at p (token_of opened (parent p)) (length opened)) g ++ numbered opened rest
gone_first opened p g rest none = refl
gone_first opened p g rest (gone r) = refl

pub gone_entered : (p : Path) (g : List Action) (rest : List Step) → Gone g → entered (steps_at p g ++ rest) ≡ entered rest
gone_entered p g rest none = refl
gone_entered p g rest (gone r) = refl

-- what is opened there and below
pub shape_entered : (p : Path) (f l z : List Action) (b : Bool) (s : ℕ) → Shape f l z b s → (below : List Step)
    → entered (steps_at p f ++ (cond b below [] ++ steps_at p l)) ≡ own_list s p ++ cond b (entered below) []
shape_entered p f l z c s bare below = refl
shape_entered p f l z c s (entry a xs ys zs b e hx hy hz) below =
    ap (λ o. o ++ entered (steps_at p xs ++ (cond b below [] ++ steps_at p ys))) (entry_opens [] p a e)
    ∙ ap (λ (o : List Path). p ∷ o)
    (entered-append (steps_at p xs) (cond b below [] ++ steps_at p ys)
    ∙ ap (λ o. o ++ entered (cond b below [] ++ steps_at p ys)) (inner_entered p xs hx)
    ∙ entered-append (cond b below []) (steps_at p ys)
    ∙ ap (λ o. entered (cond b below []) ++ o) (inner_entered p ys hy)
    ∙ append-nil (entered (cond b below []))
    ∙ by b)
  where
    by : (b : Bool) → entered (cond b below []) ≡ cond b (entered below) []
    by true = refl
    by false = refl

-- the calls there and below, where the path isn't opened yet
pub shape_calls : (p : Path) (f l z : List Action) (b : Bool) (s : ℕ) → Shape f l z b s → (opened : List Path) → is_opened opened p ≡ false
    → (below : List Step) (calls : List Call) → (b ≡ true → numbered (opened ++ p ∷ []) below ≡ calls)
    → numbered opened (steps_at p f ++ (cond b below [] ++ steps_at p l))
    ≡ calls_at p (token_of opened (parent p)) (length opened) f
    ++ (cond b calls [] ++ calls_at p (token_of opened (parent p)) (length opened) l)
shape_calls p f l z c s bare opened h below calls k = refl
shape_calls p f l z c s (entry a xs ys zs b e hx hy hz) opened h below calls k =
    λ i. entry_call opened p a e i
    ∷ (ap (λ o. numbered o (steps_at p xs ++ (cond b below [] ++ steps_at p ys))) (entry_opens opened p a e) ∙ inside) i
  where
    now : List Path
    now = opened ++ p ∷ []

    up : ℕ
    up = token_of opened (parent p)

    own : token_of now p ≡ length opened
    own = token_first opened p [] h

    later : token_of (now ++ entered (cond b below [])) p ≡ length opened
    later = token_stays now p (entered (cond b below [])) (opened_last opened p) ∙ own

    by : (c : Bool) → b ≡ c → numbered now (cond c below []) ≡ cond c calls []
    by true q = k q
    by false q = refl

    inside : numbered now (steps_at p xs ++ (cond b below [] ++ steps_at p ys)) ≡ calls_at p up (length opened) xs
        ++ (cond b calls [] ++ calls_at p up (length opened) ys)
    inside =
        numbered-append (steps_at p xs) (cond b below [] ++ steps_at p ys) now
        ∙ ap (λ o. numbered now (steps_at p xs) ++ numbered (now ++ o) (cond b below [] ++ steps_at p ys)) (inner_entered p xs hx)
        ∙ ap (λ o. numbered now (steps_at p xs) ++ numbered o (cond b below [] ++ steps_at p ys)) (append-nil now)
        ∙ ap (λ c. c ++ numbered now (cond b below [] ++ steps_at p ys)) (inner_calls now p up (length opened) xs own hx)
        ∙ ap (λ c. calls_at p up (length opened) xs ++ c)
        (numbered-append (cond b below []) (steps_at p ys) now
        ∙ ap (λ c. c ++ numbered (now ++ entered (cond b below [])) (steps_at p ys)) (by b refl)
        ∙ ap (λ c. cond b calls [] ++ c) (inner_calls (now ++ entered (cond b below [])) p up (length opened) ys later hy))

-- the late calls there and below, where the path is opened
pub shape_late : (p : Path) (f l z : List Action) (b : Bool) (s : ℕ) → Shape f l z b s → (opened : List Path) (up own : ℕ)
    → (s ≡ 1 → token_of opened p ≡ own)
    → (below : List Step) (calls : List Call) → entered below ≡ [] → (b ≡ true → numbered opened below ≡ calls)
    → numbered opened (steps_at p z ++ (cond b below [] ++ [])) ≡ calls_at p up own z ++ (cond b calls [] ++ [])
shape_late p f l z c s bare opened up own t below calls e k = refl
shape_late p f l z c s (entry a xs ys zs b i hx hy hz) opened up own t below calls e k =
    numbered-append (steps_at p zs) (cond b below [] ++ []) opened
    ∙ ap (λ o. numbered opened (steps_at p zs) ++ numbered o (cond b below [] ++ []))
    (ap (λ o. opened ++ o) (inner_entered p zs hz) ∙ append-nil opened)
    ∙ ap (λ o. o ++ numbered opened (cond b below [] ++ [])) (inner_calls opened p up own zs (t refl) hz)
    ∙ ap (λ o. calls_at p up own zs ++ o)
    (ap (numbered opened) (append-nil (cond b below [])) ∙ by b refl ∙ sym (append-nil (cond b calls [])))
  where
    by : (c : Bool) → b ≡ c → numbered opened (cond c below []) ≡ cond c calls []
    by true q = k q
    by false q = refl

-- late steps open nothing
pub late_entered : (p : Path) (f l z : List Action) (b : Bool) (s : ℕ) → Shape f l z b s → (below : List Step) → entered below ≡ []
    → entered (steps_at p z ++ (cond b below [] ++ [])) ≡ []
late_entered p f l z c s bare below e = refl
late_entered p f l z c s (entry a xs ys zs b i hx hy hz) below e =
    entered-append (steps_at p zs) (cond b below [] ++ [])
    ∙ ap (λ o. o ++ entered (cond b below [] ++ [])) (inner_entered p zs hz)
    ∙ ap entered (append-nil (cond b below []))
    ∙ by b
  where
    by : (c : Bool) → entered (cond c below []) ≡ []
    by true = e
    by false = refl
