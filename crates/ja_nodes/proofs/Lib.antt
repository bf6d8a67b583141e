mod AtNode
mod MemberLemmas
