-- `pair_sort::quicksort`'s measure is the budget.
use Rattle.pair_sort.proofs.+quicksort.Given as goal

abbrev pub decreases-quicksort : goal.decreases-quicksort
decreases-quicksort l = l.budget
