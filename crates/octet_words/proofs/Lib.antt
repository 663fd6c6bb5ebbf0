-- Words stored one after the other. Assumes nothing.
mod Storing
