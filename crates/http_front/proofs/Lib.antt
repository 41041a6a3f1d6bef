mod PortLemmas
mod Answering
mod Fronts
mod Responded
mod AtPorts
