-- The step of one environment as a function of its state: the form that the code follows. It need not be trusted, since
-- the law `step` ties it to the definitions of `call_model`.
pub mod After
