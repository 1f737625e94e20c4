use Rattle.tests_live.proofs.beside.calls_invoke_a_site_two_below_by_their_front.Given as goal

-- the list, the definition, the limits and the workers of what was just opened
abbrev pub ghosts-count_beside : goal.ghosts-count_beside
ghosts-count_beside g a = record { book = a.opening.name; definition = a.opening.definition; limits = a.opening.limits; workers = a.opening.workers }
