-- What the code holds of a path of a drive, as the definitions of svn_model have it.
use Rattle.std.specs.Option.{option_copied}
use Rattle.svn_model.specs.Sources.{Reported}
use Rattle.svn_model.specs.Follow.{Followed}
use Rattle.svn_served.specs.declared.follow.Here.{Here}
use Rattle.svn_served.specs.declared.follow.Followed.{Followed as Held}

abbrev pub reported_as : Here → Reported
reported_as h = record { path = h.path; own = option_copied h.own; governing = option_copied h.governing; repos_path = h.repos_path }

abbrev pub followed_as : Held → Followed
followed_as f = record { here = reported_as f.here; is_kept = f.is_kept; parent_is_kept = f.parent_is_kept; target_path = f.target_path }
