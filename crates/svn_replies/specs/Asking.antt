-- What the code holds of what is asked for, as the definitions have it.
use Rattle.svn_replies.specs.declared.answers.Found.{Found as HeldNode}
use Rattle.svn_replies.specs.Commands.{Found}

abbrev pub found_as : HeldNode → Found
found_as f = record { rev = f.place.rev; path = f.place.path; node = f.node; props = f.props; content = f.content }
