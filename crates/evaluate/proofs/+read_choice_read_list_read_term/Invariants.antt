-- What falls with each call: three times the bytes that are left, and the place in the order of the calls that read nothing: list, choice, term.
use Prim.Native.Nat.{◌+◌, ◌-◌, ◌*◌}
use lib.ListN.{length}
use Rattle.evaluate.proofs.+read_choice_read_list_read_term.Given as goal

abbrev pub decreases-read_choice : goal.decreases-read_choice
decreases-read_choice l = 3 * (length l.text.now + 1 - l.at) + 2

abbrev pub decreases-read_list : goal.decreases-read_list
decreases-read_list l = 3 * (length l.text.now + 1 - l.at) + 3

abbrev pub decreases-read_term : goal.decreases-read_term
decreases-read_term l = 3 * (length l.text.now + 1 - l.at) + 1
