-- The image of calls where one thing is said of each path.
use Rattle.std.proofs.Common.{◌≡◌, ℕ, List, [], ◌∷◌, ◌++◌, Option, Some, None, codes, ap, ◌∙◌, subst}
use Rattle.svn_types.specs.Names.{Path}
use Rattle.svn_editor.specs.declared.call.Call.{Call}
use Rattle.svn_editor.specs.declared.call.Call.TheVariants.{SetTargetRevision, OpenRoot, DeleteEntry, AddDirectory, OpenDirectory, ChangeDirProp, CloseDirectory, AddFile, OpenFile, ChangeFileProp, ApplyText, CloseFile, CloseEdit, AbortEdit}
use Rattle.svn_wire_calls.specs.declared.entered.Entered.{Entered}
use Rattle.svn_wire_calls.specs.Calls.{call_bytes}
use Rattle.svn_wire_calls.specs.Entries.{entry_props, IsSaid, IsSaidAfter, IsWrittenAs, AreWritten, entries_after, wire_with}
use Rattle.svn_wire_calls.specs.Shown.{IsShownSum, IsShown}
use Rattle.svn_wire_calls.specs.Laws.{ImagesAreOne}

-- where each text stands for itself
one_sum : (sum shown : Option (List ℕ)) → IsShownSum (λ held text. text ≡ held) (λ s known. known ≡ s) sum shown → shown ≡ sum
one_sum None shown h = h
one_sum (Some sum) shown h = h.2 ∙ ap (λ (s : List ℕ). Some s) h.1

one_shown : (call shown : Call) → IsShown (λ held text. text ≡ held) (λ s known. known ≡ s) call shown → shown ≡ call
one_shown (SetTargetRevision rev) shown h = h
one_shown (OpenRoot base token) shown h = h
one_shown (DeleteEntry path rev parent) shown h = h
one_shown (AddDirectory path parent token) shown h = h
one_shown (OpenDirectory path parent base token) shown h = h
one_shown (ChangeDirProp token name value) shown h = h
one_shown (CloseDirectory token) shown h = h
one_shown (AddFile path parent token) shown h = h
one_shown (OpenFile path parent base token) shown h = h
one_shown (ChangeFileProp token name value) shown h = h
one_shown (ApplyText token base held) shown h =
    h.4 ∙ ap (λ (s : Option (List ℕ)). ApplyText token s h.1) (one_sum base h.0 h.2) ∙ ap (λ (t : List ℕ). ApplyText token base t) h.3
one_shown (CloseFile token sum) shown h = h.2 ∙ ap (λ (s : Option (List ℕ)). CloseFile token s) (one_sum sum h.0 h.1)
one_shown CloseEdit shown h = h
one_shown AbortEdit shown h = h

module _ (told : Path → Option Entered) where
  one_said : (change : List ℕ) (token : ℕ) (path : Path) (said : List ℕ) → IsSaid (λ p e. e ≡ told p) change token path said
      → said ≡ entry_props change token (told path)
  one_said change token path said h = h.2 ∙ ap (entry_props change token) h.1

  one_after : (call : Call) (said : List ℕ) → IsSaidAfter (λ p e. e ≡ told p) call said → said ≡ entries_after told call
  one_after (SetTargetRevision rev) said h = h
  one_after (OpenRoot base token) said h = one_said (codes "change-dir-prop") token [] said h
  one_after (DeleteEntry path rev parent) said h = h
  one_after (AddDirectory path parent token) said h = one_said (codes "change-dir-prop") token path said h
  one_after (OpenDirectory path parent base token) said h = one_said (codes "change-dir-prop") token path said h
  one_after (ChangeDirProp token name value) said h = h
  one_after (CloseDirectory token) said h = h
  one_after (AddFile path parent token) said h = one_said (codes "change-file-prop") token path said h
  one_after (OpenFile path parent base token) said h = one_said (codes "change-file-prop") token path said h
  one_after (ChangeFileProp token name value) said h = h
  one_after (ApplyText token base text) said h = h
  one_after (CloseFile token sum) said h = h
  one_after CloseEdit said h = h
  one_after AbortEdit said h = h

  -- a call as it is written, where each text stands for itself
  one_written : (call : Call) (bytes : List ℕ) → IsWrittenAs (λ p e. e ≡ told p) call bytes → bytes ≡ call_bytes call ++ entries_after told call
  one_written call bytes h = h.2 ∙ ap (λ (l : List ℕ). call_bytes call ++ l) (one_after call h.0 h.1)

  pub one_image : (calls : List Call) (bytes : List ℕ) → AreWritten (λ p e. e ≡ told p) (λ held text. text ≡ held) (λ sum known. known ≡ sum) calls bytes
      → bytes ≡ wire_with told calls
  one_image [] bytes h = h
  one_image (c ∷ calls) bytes h =
      let same = one_shown c h.2.0 h.2.1 in
      let called = one_written c h.0 (subst (λ (s : Call). IsWrittenAs (λ p e. e ≡ told p) s h.0) same h.2.2) in
      h.4 ∙ ap (λ (l : List ℕ). l ++ h.1) called ∙ ap (λ (l : List ℕ). (call_bytes c ++ entries_after told c) ++ l) (one_image calls h.1 h.3)

pub images_are_one : ImagesAreOne
images_are_one told calls bytes h = one_image told calls bytes h
