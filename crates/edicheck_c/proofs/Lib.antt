mod Places
mod ReplyLemmas
mod ToldLemmas
