use Rattle.mh_stress.proofs.stress.stress_script.Given as goal

-- the list, the definition, the limits and the workers of what was just opened
abbrev pub ghosts-run_threads : goal.ghosts-run_threads
ghosts-run_threads g a = record { book = a.opening.name; definition = a.opening.definition; limits = a.opening.limits; workers = a.opening.workers }
