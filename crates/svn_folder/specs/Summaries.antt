-- What a folder shows without the bytes of its files, and the names in a directory.
--     summary_of entry      an entry without its bytes
--     IsListing s p names      the names in a directory, in byte order, each once
--     Sums past p summary, Lists past p names      the same of a folder of which something is known
use Rattle.std.specs.Prelude.{◌≡◌, ℕ, true, List, length, bytes_eq, Option, is_some, ⊤}
use Rattle.std.specs.List.{list_any}
use Rattle.std.specs.List.Sorted.{IsStrictlySortedBy}
use Rattle.std.specs.Option.{option_map}
use Rattle.sha1.specs.Sha1.{sha1}
use Rattle.svn_types.specs.Names.{Path, name_cmp}
use Rattle.svn_types.specs.Paths.{child}
use Rattle.svn_folder.specs.declared.entry.Entry.{Entry}
use Rattle.svn_folder.specs.declared.entry.Entry.TheVariants.{File, Directory, Link}
use Rattle.svn_folder.specs.declared.summary.Summary.{Summary}
use Rattle.svn_folder.specs.declared.summary.Summary.TheVariants as summary
use Rattle.svn_folder.specs.Entries.{has_directory}
use Rattle.svn_folder.specs.States.{State, seen}
use Rattle.svn_folder.specs.Steps.{run}
use Rattle.svn_folder.specs.Pasts.{Past, Unknown, Known, Broken}

abbrev pub summary_of : Entry → Summary
summary_of (File bytes mode) = summary.File (length bytes) (sha1 bytes) mode
summary_of Directory = summary.Directory
summary_of (Link target) = summary.Link target

pub record IsListing (s : State) (p : Path) (names : List (List ℕ)) : Type 0 where
  pub directory : has_directory (seen s p) ≡ true
  pub ascending : IsStrictlySortedBy name_cmp names
  pub each : (name : List ℕ) → list_any (λ n. bytes_eq n name) names ≡ is_some (seen s (child p name))

abbrev pub Sums : Past → Path → Option Summary → Type 0
Sums Unknown p o = ⊤
Sums (Known s steps) p o = o ≡ option_map summary_of (seen (run s steps) p)
Sums (Broken s steps) p o = ⊤

abbrev pub Lists : Past → Path → List (List ℕ) → Type 0
Lists Unknown p names = ⊤
Lists (Known s steps) p names = IsListing (run s steps) p names
Lists (Broken s steps) p names = ⊤
