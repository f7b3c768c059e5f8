-- The texts of files.
--     file_text h n      what the repository holds of a file's text; None at a directory
--     size_of s n, sum_of s n      how many bytes a file has, and its MD5 checksum
use Rattle.std.specs.Prelude.{ℕ, List, Option, option_map, option_and_then, unwrap_or}
use Rattle.svn_repo.specs.History.{History, node_at, text_in}
use Rattle.svn_replies.specs.declared.served.Served.{Served}
use Rattle.svn_replies.specs.Texts.{known_len, known_md5}

abbrev pub file_text : History → ℕ → Option (List ℕ)
file_text h n = option_and_then text_in (node_at h n)

abbrev pub size_of : Served → ℕ → ℕ
size_of s n = unwrap_or (option_map (known_len s) (file_text s.repo n)) 0

abbrev pub sum_of : Served → ℕ → Option (List ℕ)
sum_of s n = option_and_then (known_md5 s) (file_text s.repo n)
