use Rattle.shared_history.proofs.pen.Pen.write.Given as goal

-- what is written is the history that the value has
abbrev pub ghosts-write_as : goal.ghosts-write_as
ghosts-write_as g a = record { history = g.M.Source.history a._about.now }
