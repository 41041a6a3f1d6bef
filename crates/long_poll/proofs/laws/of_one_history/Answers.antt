use Rattle.long_poll.proofs.laws.of_one_history.Goals as goal

pub returns : goal.returns
returns g c = λ call call' reply reply' given given'.
    c.one_history.ensures.one _ _ _ call call' reply reply' _ _ given given' c.agree.ensures.agree
