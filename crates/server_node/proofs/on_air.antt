mod ServerLemmas
