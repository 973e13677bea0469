-- What the proofs of a report cite.
mod Written
