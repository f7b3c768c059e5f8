-- Paths in words, case by case.
use Rattle.std.proofs.Common.{◌≡◌, ℕ, true, false, List, [], ◌∷◌, Option, Some, None, Ok, Err, bytes_eq, cond, refl, ap, sym, ◌∙◌}
use Rattle.std.specs.Prelude.{is_some, if◌then◌else◌}
use Rattle.std.specs.Str.{is_utf8}
use Rattle.svn_types.specs.declared.fault.PathFault.{PathFault}
use Rattle.svn_types.specs.declared.fault.PathFault.TheVariants.{Memory}
use Rattle.svn_types.specs.declared.fault.PathBytesFault.{PathBytesFault}
use Rattle.svn_types.specs.declared.fault.PathBytesFault.TheVariants as bytes_fault
use Rattle.svn_types.specs.Names.{Path, path_of_text}
use Rattle.svn_types.specs.NameFaults.{path_fault, AnswersPath, AnswersBytes}
use Rattle.svn_script.specs.Reading.{path_of_bytes, path_of_names}

accepted : (fault : Option PathFault) (p path : Path) → AnswersPath fault p (Ok path) → (if is_some fault then None else Some p) ≡ Some path
accepted None p path h = ap (λ (q : Path). Some q) (sym h)
accepted (Some f) p path h = absurd h

refused : (fault : Option PathFault) (p : Path) (e : PathFault) → AnswersPath {T = Path} fault p (Err e) → (e ≡ Memory → ⊥)
    → (if is_some fault then None else Some p) ≡ None
refused None p e h other = absurd (other h)
refused (Some f) p e h other = refl

-- the path that bytes spell is what they mean, if they aren't a point
pub reads_path : (bytes : List ℕ) (path : Path) → bytes_eq bytes (46 ∷ []) ≡ false → AnswersBytes bytes (Ok path) → path_of_bytes bytes ≡ Some path
reads_path bytes path e h = rw (e, h.0) (accepted (path_fault (path_of_text bytes)) (path_of_text bytes) path h.1)

-- bytes that spell no path mean nothing, if they aren't a point
pub refuses_path : (bytes : List ℕ) (fault : PathBytesFault) → bytes_eq bytes (46 ∷ []) ≡ false → AnswersBytes bytes (Err fault)
    → (fault ≡ bytes_fault.Path Memory → ⊥) → path_of_bytes bytes ≡ None
refuses_path bytes bytes_fault.NotUtf8 e h other = rw (e, h) refl
refuses_path bytes (bytes_fault.Path fault) e h other =
    rw (e, h.0) (refused (path_fault (path_of_text bytes)) (path_of_text bytes) fault h.1 (λ same. other (ap bytes_fault.Path same)))
