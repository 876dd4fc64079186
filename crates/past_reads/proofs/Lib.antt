mod Answering
mod HeldLemmas
mod PastLemmas
