use Rattle.env_phase.proofs.Meets as M
use Rattle.env_phase.proofs.laws.meets.Goals as goal

pub returns : goal.returns
returns c =
    record { opens = M.opens; stands = M.takes; moves = M.gives; ended = M.ends; answers = M.few_here; ten = M.ten_members; few = M.at_most_13; events = M.few_events; registered = M.few_registered }
