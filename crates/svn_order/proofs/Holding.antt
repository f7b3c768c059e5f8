-- An order check holds what one more call that is in order says.
use Rattle.std.proofs.Common.{◌≡◌, ℕ, ◌+◌, true, false, cond, List, [], ◌∷◌, ◌++◌, length, map, refl, sym, ◌∙◌, ap, subst, true≢false}
use Rattle.std.proofs.Common.{arith}
use Rattle.std.specs.Prelude.{Option, Some, None, nat_eq, filter}
use Rattle.std.specs.List.{list_any}
use Rattle.std.proofs.lemmas.List.{length-append, nil_from_length}
use Rattle.std.proofs.lemmas.Bool.{not-false, or_parts, eqb-true}
use Rattle.svn_lists.proofs.Parts.{length_one}
use Rattle.svn_types.specs.declared.kind.Kind.TheVariants.{File, Directory}
use Rattle.svn_types.specs.Names.{Path}
use Rattle.svn_types.specs.Paths.{child}
use Rattle.svn_editor.specs.declared.call.Call.{Call}
use Rattle.svn_editor.specs.declared.call.Call.TheVariants.{SetTargetRevision, OpenRoot, DeleteEntry, AddDirectory, OpenDirectory}
use Rattle.svn_editor.specs.declared.call.Call.TheVariants.{ChangeDirProp, CloseDirectory, AddFile, OpenFile, ChangeFileProp, ApplyText}
use Rattle.svn_editor.specs.declared.call.Call.TheVariants.{CloseFile, CloseEdit, AbortEdit}
use Rattle.svn_order.specs.declared.directories.OpenedDirectory.{OpenedDirectory}
use Rattle.svn_order.specs.declared.order.OrderCheck.{OrderCheck}
use Rattle.svn_order.specs.declared.order.Stage.TheVariants.{During}
use Rattle.svn_editor.specs.Calls.{Given, kind_eq, is_last, number_eq, applies_text, changes_dir, is_open_directory, given_by, named_by}
use Rattle.svn_editor.specs.Calls.{opens_entry, deletes, closes, all_given, innermost, current_file, current_after, opens_subdirectory}
use Rattle.svn_editor.specs.Order.{is_target_late, is_outside}
use Rattle.svn_order.specs.Tokens.{token_of}
use Rattle.svn_order.specs.Directories.{shown, innermost_of}
use Rattle.svn_order.specs.OrderChanges.{Notes, NotesDirectory, NotesFile}
use Rattle.svn_order.specs.StandsAfter.{open_directories, token_and_path, stage_after, Holds}
use Rattle.svn_editor.proofs.OneMore.{given_none, given_one, current_more}
use Rattle.svn_editor.proofs.Accepted.{IsAccepted}
use Rattle.svn_order.proofs.Sound.{IsSound, known, numbered_next}
use Rattle.svn_order.proofs.OpenDirectories.{open_still, open_given, open_closed, open_file_closed}
use Rattle.svn_order.proofs.Looking.{parent_of, open_below_at, same_length, innermost_at}
use Rattle.svn_order.proofs.HoldingTokens.{during, begun, length-changed, AreTokens, tokens_still, tokens_given, tokens_closed, tokens_text}
use Rattle.svn_order.proofs.HoldingDirectories.{AreDirectories, IsApart, IsOpenOf, directories_still, file_opened, entry_deleted}
use Rattle.svn_order.proofs.HoldingDirectories.{prop_changed, root_opened, directory_opened, directory_closed, shown_more, shown_less}

-- ---- parts of what is held

count_still : (calls : List Call) (c : Call) (n : ℕ) → given_by c ≡ None → n ≡ length (all_given calls)
    → n ≡ length (all_given (calls ++ c ∷ []))
count_still calls c n e h = h ∙ ap length (sym (given_none calls c e))

count_given : (calls : List Call) (c : Call) (g : Given) (n : ℕ) → given_by c ≡ Some g → n ≡ length (all_given calls)
    → n + 1 ≡ length (all_given (calls ++ c ∷ []))
count_given calls c g n e h = omega (arith, ap length (given_one calls c g e), length-append (all_given calls) (g ∷ []))

current_is : (s : OrderCheck) (calls : List Call) (c : Call) (o : Option ℕ) → Holds s calls → o ≡ current_after s.current c
    → o ≡ current_file (calls ++ c ∷ [])
current_is s calls c o h e = e ∙ ap (λ x. current_after x c) h.current ∙ sym (current_more calls c)

-- the stage of a check that was begun
begun_stage : (s t : OrderCheck) (calls : List Call) (c : Call) → Holds s calls → is_target_late [] c ≡ true
    → is_target_late calls c ≡ false → t.stage ≡ s.stage → t.stage ≡ stage_after (calls ++ c ∷ [])
begun_stage s t calls c h e a same = same ∙ h.stage ∙ begun calls c e a ∙ sym (during calls c)

-- a call that gives a token, where the directories are right
given_held : (s t : OrderCheck) (calls : List Call) (c : Call) (g : Given) → Holds s calls → IsSound calls → IsAccepted calls c
    → given_by c ≡ Some g → ((q : ℕ) → closes q c ≡ false) → ((q : ℕ) → applies_text q c ≡ false) → is_target_late [] c ≡ true
    → t.stage ≡ s.stage → t.tokens.items ≡ s.tokens.items ++ token_of g.kind ∷ []
    → map shown t.directories.items ≡ map token_and_path (open_directories (calls ++ c ∷ []))
    → AreDirectories t.directories.items (calls ++ c ∷ []) → t.current ≡ current_after s.current c → Holds t (calls ++ c ∷ [])
given_held s t calls c g h sound a e no_close no_text first stage tokens nesting directories current = record {
  stage = begun_stage s t calls c h first a.target stage;
  count = length_one s.tokens.items t.tokens.items (token_of g.kind) tokens ∙ count_given calls c g (length s.tokens.items) e h.count;
  tokens =
      subst (λ ns. AreTokens ns (calls ++ c ∷ [])) (sym tokens)
      (tokens_given s.tokens.items calls c g sound h.count e no_close no_text h.tokens);
  nesting = nesting;
  directories = directories;
  current = current_is s calls c t.current h current;
}

-- a call that gives no token, closes none and gives none a text, where the directories are right
still_held : (s t : OrderCheck) (calls : List Call) (c : Call) → Holds s calls → given_by c ≡ None → ((q : ℕ) → closes q c ≡ false)
    → ((q : ℕ) → applies_text q c ≡ false) → t.stage ≡ stage_after (calls ++ c ∷ []) → t.tokens.items ≡ s.tokens.items
    → map shown t.directories.items ≡ map shown s.directories.items → AreDirectories t.directories.items (calls ++ c ∷ [])
    → t.current ≡ current_file (calls ++ c ∷ []) → Holds t (calls ++ c ∷ [])
still_held s t calls c h e no_close no_text stage tokens same_shown directories current = record {
  stage = stage;
  count = ap length tokens ∙ count_still calls c (length s.tokens.items) e h.count;
  tokens = subst (λ ns. AreTokens ns (calls ++ c ∷ [])) (sym tokens) (tokens_still s.tokens.items calls c e no_close no_text h.tokens);
  nesting = same_shown ∙ h.nesting ∙ ap (map token_and_path) (sym (open_still calls c e no_close));
  directories = directories;
  current = current;
}

-- ---- each kind of call

root_held : (s t : OrderCheck) (calls : List Call) (base token : ℕ) → Holds s calls → IsSound calls → IsAccepted calls (OpenRoot base token)
    → Notes s (OpenRoot base token) t → Holds t (calls ++ OpenRoot base token ∷ [])
root_held s t calls base token h sound a n =
    given_held s t calls c g h sound a refl (λ q. refl) (λ q. refl) refl n.stage n.tokens_are
    (shown_more s.directories.items t.directories.items (open_directories calls) g token [] h.nesting refl n.directories
    ∙ ap (map token_and_path) (sym (open_given calls c g sound a refl)))
    (root_opened s t.directories.items calls base token h sound a.entry (numbered_next calls c g a refl) none n.directories)
    n.current_is
  where
    c : Call
    c = OpenRoot base token

    g : Given
    g = record { kind = Directory; path = []; parent = None; token = token }

    none : length s.directories.items ≡ 0
    none =
        same_length s.directories.items (open_directories calls) h.nesting
        ∙ ap (λ gs. length (filter (is_open_directory calls) gs))
        (nil_from_length (all_given calls)
        (eqb-true (length (all_given calls)) 0 (not-false (nat_eq (length (all_given calls)) 0) (sym sound.root ∙ a.entry))))

delete_held : (s t : OrderCheck) (calls : List Call) (path : Path) (rev parent : ℕ) → Holds s calls → IsSound calls
    → IsAccepted calls (DeleteEntry path rev parent) → Notes s (DeleteEntry path rev parent) t
    → Holds t (calls ++ DeleteEntry path rev parent ∷ [])
delete_held s t calls path rev parent h sound a n =
    let k = known calls (DeleteEntry path rev parent) parent Directory a refl in
    let p = parent_of s calls parent path h sound k a.path in
    still_held s t calls (DeleteEntry path rev parent) h refl (λ q. refl) (λ q. refl)
    (begun_stage s t calls (DeleteEntry path rev parent) h refl a.target n.stage) n.tokens_are (n.directories p.below_root).shown
    (entry_deleted s t.directories.items calls path rev parent h sound p (n.directories p.below_root))
    (current_is s calls (DeleteEntry path rev parent) t.current h n.current_is)

-- an open or an add of a directory in the innermost one
directory_held : (s t : OrderCheck) (calls : List Call) (c : Call) (g : Given) (m : ℕ) → Holds s calls → IsSound calls → IsAccepted calls c
    → given_by c ≡ Some g → g.kind ≡ Directory → named_by c ≡ Some (m, Directory)
    → is_outside calls (Some (m, Directory)) (Some g.path) ≡ false → number_eq (innermost calls) (Some m) ≡ true → IsOpenOf c g.path
    → ((n : ℕ) → opens_subdirectory n c ≡ nat_eq m n) → ((q : ℕ) → closes q c ≡ false) → ((q : ℕ) → applies_text q c ≡ false)
    → list_any (opens_entry g.path) calls ≡ false → is_target_late [] c ≡ true → current_after s.current c ≡ None
    → NotesDirectory g.path g.token s t → Holds t (calls ++ c ∷ [])
directory_held s t calls c g m h sound a e kind named inside inner o below no_close no_text fresh first current n =
    let k = known calls c m Directory a named in
    let p = parent_of s calls m g.path h sound k inside in
    let number = numbered_next calls c g a e in
    let is_directory : kind_eq g.kind Directory ≡ true = ap (λ x. kind_eq x Directory) kind in
    given_held s t calls c g h sound a e no_close no_text first n.stage
    (n.tokens_are ∙ ap (λ x. s.tokens.items ++ token_of x ∷ []) (sym kind))
    (shown_more n.directories.marked t.directories.items (open_directories calls) g g.token g.path
    (n.directories.subdirectory.shown ∙ (n.directories.entry p.below_root).shown ∙ h.nesting) refl n.directories.opened
    ∙ ap (map token_and_path) (sym
    (open_given calls c g sound a e ∙ ap (λ b. cond b (open_directories calls ++ g ∷ []) (open_directories calls)) is_directory)))
    (directory_opened s t.directories.items calls c m g.token g.path h sound p k inner o below fresh number n.directories)
    (n.current_is ∙ sym current)

-- an open or an add of a file
file_held : (s t : OrderCheck) (calls : List Call) (c : Call) (g : Given) (m : ℕ) → Holds s calls → IsSound calls → IsAccepted calls c
    → given_by c ≡ Some g → g.kind ≡ File → named_by c ≡ Some (m, Directory) → is_outside calls (Some (m, Directory)) (Some g.path) ≡ false
    → IsOpenOf c g.path → ((n : ℕ) → opens_subdirectory n c ≡ false) → ((q : ℕ) → closes q c ≡ false) → ((q : ℕ) → applies_text q c ≡ false)
    → is_target_late [] c ≡ true → current_after s.current c ≡ Some g.token → NotesFile g.path g.token s t → Holds t (calls ++ c ∷ [])
file_held s t calls c g m h sound a e kind named inside o none no_close no_text first current n =
    let k = known calls c m Directory a named in
    let p = parent_of s calls m g.path h sound k inside in
    let no_directory : kind_eq g.kind Directory ≡ false = ap (λ x. kind_eq x Directory) kind in
    given_held s t calls c g h sound a e no_close no_text first n.stage
    (n.tokens_are ∙ ap (λ x. s.tokens.items ++ token_of x ∷ []) (sym kind))
    ((n.directories p.below_root).shown ∙ h.nesting
    ∙ ap (map token_and_path) (sym
    (open_given calls c g sound a e ∙ ap (λ b. cond b (open_directories calls ++ g ∷ []) (open_directories calls)) no_directory)))
    (file_opened s t.directories.items calls c m g.path h sound p o none (n.directories p.below_root))
    (n.current_is ∙ sym current)

change_held : (s t : OrderCheck) (calls : List Call) (token : ℕ) (name : List ℕ) (value : Option (List ℕ)) → Holds s calls → IsSound calls
    → IsAccepted calls (ChangeDirProp token name value) → Notes s (ChangeDirProp token name value) t
    → Holds t (calls ++ ChangeDirProp token name value ∷ [])
change_held s t calls token name value h sound a n =
    let k = known calls (ChangeDirProp token name value) token Directory a refl in
    let inner : number_eq (innermost calls) (Some token) ≡ true =
    ap (λ o. number_eq o (Some token)) (sym (innermost_at s calls h))
    ∙ not-false (number_eq (innermost_of s.directories.items) (Some token)) (open_below_at s calls token h sound k ∙ a.prop) in
    still_held s t calls (ChangeDirProp token name value) h refl (λ q. refl) (λ q. refl)
    (begun_stage s t calls (ChangeDirProp token name value) h refl a.target n.stage) n.tokens_are n.directories.shown
    (prop_changed s t.directories.items calls token name value h sound k inner n.directories)
    (current_is s calls (ChangeDirProp token name value) t.current h n.current_is)

close_held : (s t : OrderCheck) (calls : List Call) (token : ℕ) → Holds s calls → IsSound calls → IsAccepted calls (CloseDirectory token)
    → Notes s (CloseDirectory token) t → Holds t (calls ++ CloseDirectory token ∷ [])
close_held s t calls token h sound a n =
    let k = known calls (CloseDirectory token) token Directory a refl in
    let last = open_closed calls token sound a in
    record {
      stage = begun_stage s t calls (CloseDirectory token) h refl a.target n.stage;
      count =
          ap length n.tokens_are ∙ length-changed _ s.tokens.items token
          ∙ count_still calls (CloseDirectory token) (length s.tokens.items) refl h.count;
      tokens =
          subst (λ ns. AreTokens ns (calls ++ CloseDirectory token ∷ [])) (sym n.tokens_are)
          (tokens_closed s.tokens.items calls (CloseDirectory token) token refl (λ q. refl) (λ q. refl) h.tokens);
      nesting =
          shown_less s.directories.items t.directories.items (open_directories (calls ++ CloseDirectory token ∷ [])) last.closed
          (h.nesting ∙ ap (map token_and_path) last.before) n.directories;
      directories = directory_closed s t.directories.items calls token h n.directories;
      current = current_is s calls (CloseDirectory token) t.current h n.current_is;
    }

-- a call on a file says nothing of the directories
file_apart : (c : Call) → ((t : ℕ) → opens_subdirectory t c ≡ false) → ((t : ℕ) → changes_dir t c ≡ false)
    → ((p : Path) → opens_entry p c ≡ false) → ((p : Path) → deletes p c ≡ false) → (d : OpenedDirectory) → IsApart c d
file_apart c a b e f d =
    record { subdirectory = a d.token; change = b d.token; opened = λ n. e (child d.path n); deleted = λ n. f (child d.path n) }

text_held : (s t : OrderCheck) (calls : List Call) (token : ℕ) (md5 : Option (List ℕ)) (text : List ℕ) → Holds s calls → IsSound calls
    → IsAccepted calls (ApplyText token md5 text) → Notes s (ApplyText token md5 text) t → Holds t (calls ++ ApplyText token md5 text ∷ [])
text_held s t calls token md5 text h sound a n = record {
  stage = begun_stage s t calls (ApplyText token md5 text) h refl a.target n.stage;
  count =
      ap length n.tokens_are ∙ length-changed _ s.tokens.items token
      ∙ count_still calls (ApplyText token md5 text) (length s.tokens.items) refl h.count;
  tokens =
      subst (λ ns. AreTokens ns (calls ++ ApplyText token md5 text ∷ [])) (sym n.tokens_are)
      (tokens_text s.tokens.items calls (ApplyText token md5 text) token refl (λ q. refl) (λ q. refl) h.tokens);
  nesting =
      ap (map shown) n.directories ∙ h.nesting
      ∙ ap (map token_and_path) (sym (open_still calls (ApplyText token md5 text) refl (λ q. refl)));
  directories = subst (λ ds. AreDirectories ds (calls ++ ApplyText token md5 text ∷ [])) (sym n.directories)
      (directories_still s.directories.items calls (ApplyText token md5 text)
      (file_apart (ApplyText token md5 text) (λ q. refl) (λ q. refl) (λ p. refl) (λ p. refl)) h.directories);
  current = current_is s calls (ApplyText token md5 text) t.current h n.current_is;
}

file_close_held : (s t : OrderCheck) (calls : List Call) (token : ℕ) (md5 : Option (List ℕ)) → Holds s calls → IsSound calls
    → IsAccepted calls (CloseFile token md5) → Notes s (CloseFile token md5) t → Holds t (calls ++ CloseFile token md5 ∷ [])
file_close_held s t calls token md5 h sound a n = record {
  stage = begun_stage s t calls (CloseFile token md5) h refl a.target n.stage;
  count =
      ap length n.tokens_are ∙ length-changed _ s.tokens.items token
      ∙ count_still calls (CloseFile token md5) (length s.tokens.items) refl h.count;
  tokens =
      subst (λ ns. AreTokens ns (calls ++ CloseFile token md5 ∷ [])) (sym n.tokens_are)
      (tokens_closed s.tokens.items calls (CloseFile token md5) token refl (λ q. refl) (λ q. refl) h.tokens);
  nesting = ap (map shown) n.directories ∙ h.nesting ∙ ap (map token_and_path) (sym (open_file_closed calls token md5 sound a));
  directories = subst (λ ds. AreDirectories ds (calls ++ CloseFile token md5 ∷ [])) (sym n.directories)
      (directories_still s.directories.items calls (CloseFile token md5)
      (file_apart (CloseFile token md5) (λ q. refl) (λ q. refl) (λ p. refl) (λ p. refl)) h.directories);
  current = current_is s calls (CloseFile token md5) t.current h n.current_is;
}

-- a call that changes no part of the check
quiet_held : (s t : OrderCheck) (calls : List Call) (c : Call) → Holds s calls → given_by c ≡ None → ((q : ℕ) → closes q c ≡ false)
    → ((q : ℕ) → applies_text q c ≡ false) → ((d : OpenedDirectory) → IsApart c d) → t.stage ≡ stage_after (calls ++ c ∷ [])
    → t.tokens.items ≡ s.tokens.items → t.directories.items ≡ s.directories.items → t.current ≡ current_file (calls ++ c ∷ []) → Holds t (calls ++ c ∷ [])
quiet_held s t calls c h e no_close no_text apart stage tokens directories current =
    still_held s t calls c h e no_close no_text stage tokens (ap (map shown) directories)
    (subst (λ ds. AreDirectories ds (calls ++ c ∷ [])) (sym directories)
    (directories_still s.directories.items calls c apart h.directories))
    current

target_held : (s t : OrderCheck) (calls : List Call) (rev : ℕ) → Holds s calls → is_target_late calls (SetTargetRevision rev) ≡ false
    → t ≡ record s { stage = During } → Holds t (calls ++ SetTargetRevision rev ∷ [])
target_held s t [] rev h a n =
    quiet_held s t [] (SetTargetRevision rev) h refl (λ q. refl) (λ q. refl)
    (file_apart (SetTargetRevision rev) (λ q. refl) (λ q. refl) (λ p. refl) (λ p. refl))
    (ap (λ (x : OrderCheck). x.stage) n) (ap (λ (x : OrderCheck). x.tokens.items) n) (ap (λ (x : OrderCheck). x.directories.items) n)
    (ap (λ (x : OrderCheck). x.current) n ∙ h.current)
target_held s t (x ∷ calls) rev h a n = absurd (true≢false a)

prop_held : (s t : OrderCheck) (calls : List Call) (token : ℕ) (name : List ℕ) (value : Option (List ℕ)) → Holds s calls
    → IsAccepted calls (ChangeFileProp token name value) → t ≡ s → Holds t (calls ++ ChangeFileProp token name value ∷ [])
prop_held s t calls token name value h a n =
    quiet_held s t calls (ChangeFileProp token name value) h refl (λ q. refl) (λ q. refl)
    (file_apart (ChangeFileProp token name value) (λ q. refl) (λ q. refl) (λ p. refl) (λ p. refl))
    (begun_stage s t calls (ChangeFileProp token name value) h refl a.target (ap (λ (x : OrderCheck). x.stage) n))
    (ap (λ (x : OrderCheck). x.tokens.items) n)
    (ap (λ (x : OrderCheck). x.directories.items) n)
    (ap (λ (x : OrderCheck). x.current) n ∙ h.current
    ∙ sym (current_more calls (ChangeFileProp token name value)
    ∙ stays (current_file calls) (not-false (number_eq (current_file calls) (Some token)) a.prop)))
  where
    stays : (o : Option ℕ) → number_eq o (Some token) ≡ true → cond (number_eq o (Some token)) o None ≡ o
    stays o e = ap (λ b. cond b o None) e

pub holds_more : (s t : OrderCheck) (calls : List Call) (c : Call) → Holds s calls → IsSound calls → IsAccepted calls c → is_last c ≡ false
    → Notes s c t → Holds t (calls ++ c ∷ [])
holds_more s t calls (SetTargetRevision rev) h sound a l n = target_held s t calls rev h a.target n
holds_more s t calls (OpenRoot base token) h sound a l n = root_held s t calls base token h sound a n
holds_more s t calls (DeleteEntry path rev parent) h sound a l n = delete_held s t calls path rev parent h sound a n
holds_more s t calls (AddDirectory path parent token) h sound a l n =
    directory_held s t calls (AddDirectory path parent token)
    (record { kind = Directory; path = path; parent = Some parent; token = token }) parent h sound a refl refl refl a.path
    (not-false (number_eq (innermost calls) (Some parent)) a.innermost)
    record { opens = λ p. refl; no_delete = λ p. refl; no_change = λ q. refl } (λ q. refl) (λ q. refl) (λ q. refl)
    a.entry refl refl n
holds_more s t calls (OpenDirectory path parent base token) h sound a l n =
    directory_held s t calls (OpenDirectory path parent base token)
    (record { kind = Directory; path = path; parent = Some parent; token = token }) parent h sound a refl refl refl a.path
    (not-false (number_eq (innermost calls) (Some parent)) a.innermost)
    record { opens = λ p. refl; no_delete = λ p. refl; no_change = λ q. refl } (λ q. refl) (λ q. refl) (λ q. refl)
    (or_parts (list_any (opens_entry path) calls) (list_any (deletes path) calls) a.entry).0 refl refl n
holds_more s t calls (ChangeDirProp token name value) h sound a l n = change_held s t calls token name value h sound a n
holds_more s t calls (CloseDirectory token) h sound a l n = close_held s t calls token h sound a n
holds_more s t calls (AddFile path parent token) h sound a l n =
    file_held s t calls (AddFile path parent token) (record { kind = File; path = path; parent = Some parent; token = token }) parent h
    sound a refl refl refl a.path
    record { opens = λ p. refl; no_delete = λ p. refl; no_change = λ q. refl } (λ q. refl) (λ q. refl) (λ q. refl) refl refl n
holds_more s t calls (OpenFile path parent base token) h sound a l n =
    file_held s t calls (OpenFile path parent base token)
    (record { kind = File; path = path; parent = Some parent; token = token }) parent h sound a refl refl refl a.path
    record { opens = λ p. refl; no_delete = λ p. refl; no_change = λ q. refl } (λ q. refl) (λ q. refl) (λ q. refl) refl refl n
holds_more s t calls (ChangeFileProp token name value) h sound a l n = prop_held s t calls token name value h a n
holds_more s t calls (ApplyText token base_md5 text) h sound a l n = text_held s t calls token base_md5 text h sound a n
holds_more s t calls (CloseFile token text_md5) h sound a l n = file_close_held s t calls token text_md5 h sound a n
holds_more s t calls CloseEdit h sound a l n = absurd (true≢false l)
holds_more s t calls AbortEdit h sound a l n = absurd (true≢false l)
