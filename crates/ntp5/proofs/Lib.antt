-- What the proofs of the exports cite. Assumes nothing.
mod Replaying
